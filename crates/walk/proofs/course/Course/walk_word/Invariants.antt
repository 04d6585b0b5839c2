-- Invariant: the walk has come to the page of the key, on its course, from where it was.
use Rattle.std.proofs.Common.{◌≡◌, ◌+◌, ◌≤◌, ℕ, List}
use Rattle.rules.specs.declared.State.{State}
use Rattle.walk.specs.Walks.{OnCourse, Shown, CourseOf, Along}
use Rattle.walk.proofs.course.Course.walk_word.Given as goal

abbrev pub invariant-loop-key : goal.invariant-loop-key
invariant-loop-key l = record {
  here : l.key ≡ l.self.from + l.p.tested;
  on_course : OnCourse l.self l.p;
  gaps : l.p.missing + l.initial.p.tested ≤ l.initial.p.missing + l.p.tested;
  along : (s : State) (j : ℕ) (first : List ℕ) → CourseOf s j l.self → Shown s l.word l.self.from l.initial.p.tested l.end
      → Along s j first l.initial.table l.initial.p → Along s j first l.table l.p;
}
