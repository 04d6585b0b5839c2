-- Invariant: the walk has come so far on its course, the words counted are those of the pages tested, and where it goes on a word begins. Measure: the pages
-- that are left in reach.
use Rattle.std.proofs.Common.{◌≡◌, ◌-◌, ◌<◌, ℕ}
use Rattle.rules.specs.Ranks.{Presents}
use Rattle.rules.specs.declared.State.{State}
use Rattle.walk.specs.Walks.{OnCourse, CourseOf, Along, spanned}
use Rattle.walk.proofs.Words.{Fresh}
use Rattle.walk.proofs.course.Course.walk_words.Given as goal

abbrev pub invariant-loop-at : goal.invariant-loop-at
invariant-loop-at l = record {
  on_course : OnCourse l.self l.at;
  words_are : l.words ≡ spanned l.self.from l.at.tested;
  fresh : l.at.tested < l.self.reach → l.at.missing < l.self.most → Fresh l.self.from l.at.tested;
  along : (s : State) (j : ℕ) → CourseOf s j l.self → Presents s l.maps.0.now l.maps.1.now → Along s j l.initial.table l.table l.at;
}

abbrev pub decreases-loop-at : goal.decreases-loop-at
decreases-loop-at l = l.self.reach - l.at.tested
