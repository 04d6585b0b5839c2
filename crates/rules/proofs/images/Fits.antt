-- The values of a valid state's table fit their widths. Assumes nothing.
use mathlib.Core.Path.{sym, subst}
use mathlib.Core.List.{List, [], ◌∷◌, ◌++◌, map}
use Prim.Native.Nat.{ℕ, zero, suc, ◌^◌, ◌≤◌, ◌<◌}
use native.Mathlib.Omega.{arith}
use Rattle.rules.specs.Lists.{each}
use Rattle.rules.specs.Pages.{size}
use Rattle.rules.specs.Readers.{no_reader, reader_at}
use Rattle.rules.specs.Valid.{ReaderIn, Valid}
use Rattle.rules.specs.Image.{Field, field, reader_fields, rule_number, tail, layout}
use Rattle.rules.proofs.laws.Indexed.{Always, always-append, always-map, always-each}
use Rattle.rules.proofs.images.Tables.{Fit, Fits}
use Rattle.rules.proofs.images.Layouts.{condition-low, rule-low}
use Rattle.rules.specs.declared.State.{State}
use Rattle.rules.specs.declared.Reader.{Reader}
use Rattle.rules.specs.declared.Condition.{Condition}
use Rattle.rules.specs.declared.Condition.TheVariants.{Empty, Running, Waiting}

reader-fits : (s : State) (r : Reader) (c : Condition) → ((f : ℕ) → size s f ≤ 1024) → ReaderIn c s r
    → (r.file < 256) × (r.pace < 65536) × (r.position < 65536) × (r.last < 65536)
reader-fits s r Empty small e =
    subst (λ q. (q.file < 256) × (q.pace < 65536) × (q.position < 65536) × (q.last < 65536)) (sym e) (omega arith)
reader-fits s r Running small p = omega (arith, small r.file)
reader-fits s r Waiting small p = omega (arith, small r.file)

-- the fields of a list that is written out
abbrev AllFit : List Field → Type 0
AllFit [] = Unit {0}
AllFit (f ∷ fs) = Fit f × AllFit fs

all_fit : (fs : List Field) → AllFit fs → Fits fs
all_fit [] h i = omega arith
all_fit (f ∷ fs) h zero = h.0
all_fit (f ∷ fs) h (suc i) = all_fit fs h.1 i

both-fit : (fs gs : List Field) → Fits fs → Fits gs → Fits (fs ++ gs)
both-fit = always-append Fit (field 0 0)

words-fit : (w : ℕ) (ns : List ℕ) → Always (λ n. n < 256 ^ w) 0 ns → Fits (map (field w) ns)
words-fit w ns h = always-map Fit (field 0 0) (omega arith) 0 (field w) ns h

module _ (s : State) (v : Valid s) where
  slot-fits : (j : ℕ) → Fits (reader_fields (reader_at s j))
  slot-fits j =
      let r = reader_at s j in
      let low = reader-fits s r r.condition v.sizes_high (v.readers_in j) in
      all_fit (reader_fields r) (omega (arith, condition-low r.condition))

  marks-fit : Fits (map (field 2) s.marks)
  marks-fit = words-fit 2 s.marks (λ j.
      let r = reader_at s j in
      omega (arith, v.marks_in j, reader-fits s r r.condition v.sizes_high (v.readers_in j)))

  tail-fits : Fits (tail s)
  tail-fits =
      let rule : List Field = field 1 (rule_number s.rule) ∷ field 1 0 ∷ [] in
      let expected = map (field 2) s.expected in
      let attaches = map (field 2) s.attaches in
      both-fit (map (field 2) s.marks) (rule ++ (expected ++ attaches)) marks-fit
      (both-fit rule (expected ++ attaches) (all_fit rule (omega (arith, rule-low s.rule)))
      (both-fit expected attaches (words-fit 2 s.expected (λ f. omega (arith, v.expected_high f)))
      (words-fit 2 s.attaches (λ f. omega (arith, v.attaches_high f)))))

  -- a valid state's values fit their widths
  pub layout-fits : Fits (layout s)
  unfolding layout
  layout-fits =
      let settings : List Field = field 2 s.frames ∷ field 1 s.turn ∷ field 1 0 ∷ field 4 s.look_ahead ∷ field 4 s.fetch_time ∷ [] in
      let gap : List Field = field 4 0 ∷ [] in
      let fetches = map (field 8) s.fetching in
      let maps = map (field 8) s.cached ++ (fetches ++ tail s) in
      let slots = each reader_fields s.readers in
      let sizes = map (field 2) s.sizes in
      both-fit settings (sizes ++ (slots ++ (gap ++ maps))) (all_fit settings (omega (arith, v.frames_high, v.turn_high, v.look_high, v.time_high)))
      (both-fit sizes (slots ++ (gap ++ maps)) (words-fit 2 s.sizes (λ j. omega (arith, v.sizes_high j)))
      (both-fit slots (gap ++ maps) (always-each Fit (field 0 0) (omega arith) no_reader reader_fields s.readers slot-fits)
      (both-fit gap maps (all_fit gap (omega arith))
      (both-fit (map (field 8) s.cached) (fetches ++ tail s) (words-fit 8 s.cached v.cached_map.fit)
      (both-fit fetches (tail s) (words-fit 8 s.fetching v.fetching_map.fit) tail-fits)))))
