-- The table of a state, and the state of a table's numbers. Assumes nothing.
use mathlib.Core.Path.{◌≡◌, refl, sym, ap, ap₂, ◌∙◌}
use mathlib.Core.List.{List, [], ◌∷◌, ◌++◌, map, map-map, map-append, map-id}
use Prim.Native.Nat.{ℕ, zero, suc, ◌+◌, ◌*◌, ◌≤◌, ◌<◌}
use native.Mathlib.Omega.{arith}
use lib.ListN.{length, get_or, take, drop, length-take, length-drop, take-append-drop, get_or-append}
use lib.Seq.{take_at, take_all, drop-cons, drop-drop, get_or-drop, ext_get_or}
use Rattle.rules.specs.Lists.{range, each}
use Rattle.rules.specs.Readers.{no_reader, reader_at}
use Rattle.rules.specs.Image.{
  Field,
  field,
  condition_number,
  reader_fields,
  rule_number,
  tail,
  layout,
  condition_of,
  reader_number,
  reader_from,
  state_from,
}
use Rattle.rules.specs.Calls.{rule_of}
use Rattle.rules.specs.Valid.{Valid}
use Rattle.rules.proofs.laws.Members.{range-in}
use Rattle.rules.proofs.laws.Indexed.{
  map_each,
  each_map,
  each_same,
  map-alike,
  each-alike,
  drop_past,
  get_d_past,
  length-listed,
  get_or-listed,
  each_part,
  length-each,
  get_or-each,
  rejoin,
  part-listed,
}
use Rattle.rules.proofs.images.Tables.{widths, values}
use Rattle.rules.specs.declared.State.{State}
use Rattle.rules.specs.declared.Reader.{Reader}
use Rattle.rules.specs.declared.Rule.{Rule}
use Rattle.rules.specs.declared.Rule.TheVariants.{Of1989, Of1993}
use Rattle.rules.specs.declared.Condition.{Condition}
use Rattle.rules.specs.declared.Condition.TheVariants.{Empty, Running, Waiting}

-- the lists of a state are as long as their types say
pub record Lengths (s : State) : Type 0 where
  pub eight : length s.sizes ≡ 8
  pub sixteen : length s.readers ≡ 16
  pub marks_all : length s.marks ≡ 16
  pub expected_all : length s.expected ≡ 8
  pub attaches_all : length s.attaches ≡ 8
  pub cached-all : length s.cached ≡ 128
  pub fetching-all : length s.fetching ≡ 128

-- a valid state's lists are so long
pub valid-lengths : (s : State) → Valid s → Lengths s
valid-lengths s v =
    record {
      eight = v.eight;
      sixteen = v.sixteen;
      marks_all = v.marks_all;
      expected_all = v.expected_all;
      attaches_all = v.attaches_all;
      cached-all = v.cached_map.all;
      fetching-all = v.fetching_map.all;
    }

-- ---- the table, part by part

-- any number of the tail's fields, in their order
tail-map : (g : Field → ℕ) (s : State)
    → map g (tail s)
    ≡ map (λ n. g (field 2 n)) s.marks
    ++ (g (field 1 (rule_number s.rule)) ∷ g (field 1 0) ∷ (map (λ n. g (field 2 n)) s.expected ++ map (λ n. g (field 2 n)) s.attaches))
tail-map g s =
    let counts = map (field 2) s.expected ++ map (field 2) s.attaches in
    let lists = map-append g (map (field 2) s.expected) (map (field 2) s.attaches)
    ∙ ap₂ ◌++◌ (map-map g (field 2) s.expected) (map-map g (field 2) s.attaches) in
    map-append g (map (field 2) s.marks) (field 1 (rule_number s.rule) ∷ field 1 0 ∷ counts)
    ∙ ap₂ ◌++◌ (map-map g (field 2) s.marks) (ap (λ r. g (field 1 (rule_number s.rule)) ∷ g (field 1 0) ∷ r) lists)

-- any number of the table's fields, in their order
layout-map : (g : Field → ℕ) (s : State)
    → map g (layout s)
    ≡ g (field 2 s.frames) ∷ g (field 1 s.turn) ∷ g (field 1 0) ∷ g (field 4 s.look_ahead) ∷ g (field 4 s.fetch_time)
    ∷ (map (λ n. g (field 2 n)) s.sizes
    ++ (each (λ r. map g (reader_fields r)) s.readers
    ++ (g (field 4 0) ∷ (map (λ n. g (field 8 n)) s.cached ++ (map (λ n. g (field 8 n)) s.fetching ++ map g (tail s))))))
unfolding layout
layout-map g s =
    let last = map (field 8) s.fetching ++ tail s in
    let words = map (field 8) s.cached ++ last in
    let ends = map-append g (map (field 8) s.fetching) (tail s) ∙ ap (λ r. r ++ map g (tail s)) (map-map g (field 8) s.fetching) in
    let maps = map-append g (map (field 8) s.cached) last ∙ ap₂ ◌++◌ (map-map g (field 8) s.cached) ends in
    let slots = map-append g (each reader_fields s.readers) (field 4 0 ∷ words)
    ∙ ap₂ ◌++◌ (map_each g reader_fields s.readers) (ap (λ r. g (field 4 0) ∷ r) maps) in
    let lists = map-append g (map (field 2) s.sizes) (each reader_fields s.readers ++ (field 4 0 ∷ words))
    ∙ ap₂ ◌++◌ (map-map g (field 2) s.sizes) slots in
    ap (λ r. g (field 2 s.frames) ∷ g (field 1 s.turn) ∷ g (field 1 0) ∷ g (field 4 s.look_ahead) ∷ g (field 4 s.fetch_time) ∷ r) lists

-- the values of a record
abbrev pub reader_numbers : Reader → List ℕ
reader_numbers r = values (reader_fields r)

-- the values of the records
abbrev pub slots_of : State → List ℕ
slots_of s = each reader_numbers s.readers

-- the values after the marks
abbrev rules_of : State → List ℕ
rules_of s = rule_number s.rule ∷ 0 ∷ (s.expected ++ s.attaches)

-- the values of the tail
abbrev tail_of : State → List ℕ
tail_of s = s.marks ++ rules_of s

-- the values after the records
abbrev pub maps_of : State → List ℕ
maps_of s = 0 ∷ (s.cached ++ (s.fetching ++ tail_of s))

-- the values of a state's table
abbrev pub state_numbers : State → List ℕ
state_numbers s = s.frames ∷ s.turn ∷ 0 ∷ s.look_ahead ∷ s.fetch_time ∷ (s.sizes ++ (slots_of s ++ maps_of s))

tail-values : (s : State) → values (tail s) ≡ tail_of s
tail-values s = tail-map (λ f. f.value) s ∙ rw (map-id s.marks, map-id s.expected, map-id s.attaches)

-- they are its table's values
pub values-layout : (s : State) → values (layout s) ≡ state_numbers s
values-layout s = layout-map (λ f. f.value) s ∙ rw (map-id s.sizes, map-id s.cached, map-id s.fetching, tail-values s)

-- the tail's widths depend on the lists' lengths alone
tail-alike : (s t : State) → Lengths s → Lengths t → widths (tail s) ≡ widths (tail t)
tail-alike s t h k =
    tail-map (λ f. f.width) s
    ∙ ap₂ ◌++◌ (map-alike 2 s.marks t.marks (h.marks_all ∙ sym k.marks_all))
    (ap (λ r. 1 ∷ 1 ∷ r) (ap₂ ◌++◌ (map-alike 2 s.expected t.expected (h.expected_all ∙ sym k.expected_all))
    (map-alike 2 s.attaches t.attaches (h.attaches_all ∙ sym k.attaches_all))))
    ∙ sym (tail-map (λ f. f.width) t)

-- so do all widths
pub widths-alike : (s t : State) → Lengths s → Lengths t → widths (layout s) ≡ widths (layout t)
widths-alike s t h k =
    layout-map (λ f. f.width) s
    ∙ ap (λ r. 2 ∷ 1 ∷ 1 ∷ 4 ∷ 4 ∷ r)
    (ap₂ ◌++◌ (map-alike 2 s.sizes t.sizes (h.eight ∙ sym k.eight))
    (ap₂ ◌++◌ (each-alike (1 ∷ 1 ∷ 2 ∷ 2 ∷ 2 ∷ []) s.readers t.readers (h.sixteen ∙ sym k.sixteen))
    (ap (λ r. 4 ∷ r) (ap₂ ◌++◌ (map-alike 8 s.cached t.cached (h.cached-all ∙ sym k.cached-all))
    (ap₂ ◌++◌ (map-alike 8 s.fetching t.fetching (h.fetching-all ∙ sym k.fetching-all)) (tail-alike s t h k))))))
    ∙ sym (layout-map (λ f. f.width) t)

-- ---- the state of a state's numbers

-- a condition's number is 0, 1 or 2
pub condition-low : (c : Condition) → condition_number c ≤ 2
condition-low Empty = omega arith
condition-low Running = omega arith
condition-low Waiting = omega arith

condition-of : (c : Condition) → condition_of (condition_number c) ≡ c
condition-of Empty = refl
condition-of Running = refl
condition-of Waiting = refl

pub rule-low : (r : Rule) → rule_number r ≤ 1
rule-low Of1989 = omega arith
rule-low Of1993 = omega arith

rule-of : (r : Rule) → rule_of (rule_number r) ≡ r
rule-of Of1989 = refl
rule-of Of1993 = refl

module _ (s : State) (h : Lengths s) where
  slots-long : length (slots_of s) ≡ 80
  slots-long = omega (arith, length-each reader_numbers 5 (λ r. refl) s.readers)

  -- number i of slot j
  pub slot-number : (j i : ℕ) → j < 16 → i < 5 → reader_number (state_numbers s) j i ≡ get_or (reader_numbers (reader_at s j)) i 0
  slot-number j i l m =
      let k = 5 * j + i in
      let at : 13 + 5 * j + i ≡ 5 + (8 + k) = omega arith in
      ap (λ n. get_or (state_numbers s) n 0) at
      ∙ sym (get_or-drop 5 (state_numbers s) (8 + k) 0)
      ∙ get_d_past s.sizes (slots_of s ++ maps_of s) 8 h.eight k 0
      ∙ get_or-append (slots_of s) (maps_of s) 0 k (omega (arith, slots-long))
      ∙ get_or-each reader_numbers 5 (λ r. refl) s.readers no_reader 0 j i (omega arith) m

  -- past the sizes and the readers
  drop-maps : (m : ℕ) → drop (5 + (8 + (80 + m))) (state_numbers s) ≡ drop m (maps_of s)
  drop-maps m =
      sym (drop-drop (8 + (80 + m)) 5 (state_numbers s))
      ∙ drop_past s.sizes (slots_of s ++ maps_of s) 8 h.eight (80 + m)
      ∙ drop_past (slots_of s) (maps_of s) 80 slots-long m

  -- past the maps
  drop-tail : (m : ℕ) → drop (5 + (8 + (80 + (1 + (128 + (128 + m)))))) (state_numbers s) ≡ drop m (tail_of s)
  drop-tail m =
      drop-maps (1 + (128 + (128 + m)))
      ∙ drop_past (0 ∷ []) (s.cached ++ (s.fetching ++ tail_of s)) 1 refl (128 + (128 + m))
      ∙ drop_past s.cached (s.fetching ++ tail_of s) 128 h.cached-all (128 + m)
      ∙ drop_past s.fetching (tail_of s) 128 h.fetching-all m

  -- past the marks
  drop-rules : (m : ℕ) → drop (5 + (8 + (80 + (1 + (128 + (128 + (16 + m))))))) (state_numbers s) ≡ drop m (rules_of s)
  drop-rules m = drop-tail (16 + m) ∙ drop_past s.marks (rules_of s) 16 h.marks_all m

  -- the rule's number
  pub rule-at : get_or (state_numbers s) 366 0 ≡ rule_number s.rule
  rule-at = sym (get_or-drop 366 (state_numbers s) 0 0) ∙ ap (λ r. get_or r 0 0) (drop-rules 0)

  -- the 0 behind it
  pub filler-number : get_or (state_numbers s) 367 0 ≡ 0
  filler-number = sym (get_or-drop 366 (state_numbers s) 1 0) ∙ ap (λ r. get_or r 1 0) (drop-rules 0)

  -- the 0 before the maps
  pub gap-number : get_or (state_numbers s) 93 0 ≡ 0
  gap-number = sym (get_or-drop 93 (state_numbers s) 0 0) ∙ ap (λ r. get_or r 0 0) (drop-maps 0)

  -- a record is that of its slot's numbers
  pub reader-numbers : (j : ℕ) → j < 16 → reader_from (state_numbers s) j ≡ reader_at s j
  reader-numbers j l = λ i.
      record {
        condition = (ap condition_of (slot-number j 0 l (omega arith)) ∙ condition-of (reader_at s j).condition) i;
        file = slot-number j 1 l (omega arith) i;
        pace = slot-number j 2 l (omega arith) i;
        position = slot-number j 3 l (omega arith) i;
        last = slot-number j 4 l (omega arith) i;
      }

  readers-numbers : map (reader_from (state_numbers s)) (range 0 16) ≡ s.readers
  readers-numbers =
      let f = reader_from (state_numbers s) in
      let long = length-listed f 16 in
      ext_get_or no_reader (map f (range 0 16)) s.readers (long ∙ sym h.sixteen) (λ j l.
      let low : j < 16 = omega arith in
      get_or-listed f 16 j no_reader low ∙ reader-numbers j low)

  -- a state is that of its numbers
  pub state-numbers : state_from (state_numbers s) ≡ s
  unfolding state_from
  state-numbers = λ i.
      record {
        frames = s.frames;
        turn = s.turn;
        look_ahead = s.look_ahead;
        fetch_time = s.fetch_time;
        sizes = take_at s.sizes (slots_of s ++ maps_of s) 8 h.eight i;
        readers = readers-numbers i;
        marks = (ap (take 16) (drop-tail 0) ∙ take_at s.marks (rules_of s) 16 h.marks_all) i;
        rule = (ap rule_of rule-at ∙ rule-of s.rule) i;
        expected = (ap (take 8) (drop-rules 2) ∙ take_at s.expected s.attaches 8 h.expected_all) i;
        attaches = (ap (take 8) (drop-rules 10 ∙ drop_past s.expected s.attaches 8 h.expected_all 0)
            ∙ take_all 8 s.attaches (omega (arith, h.attaches_all))) i;
        cached = (ap (take 128) (drop-maps 1) ∙ take_at s.cached (s.fetching ++ tail_of s) 128 h.cached-all) i;
        fetching = (ap (take 128) (drop-maps 129 ∙ drop_past s.cached (s.fetching ++ tail_of s) 128 h.cached-all 0)
            ∙ take_at s.fetching (tail_of s) 128 h.fetching-all) i;
      }

-- ---- the numbers of a state made of numbers

number_of : (n : ℕ) → n ≤ 2 → condition_number (condition_of n) ≡ n
number_of zero h = refl
number_of (suc zero) h = refl
number_of (suc (suc n)) h = omega arith

rule-number : (n : ℕ) → n ≤ 1 → rule_number (rule_of n) ≡ n
rule-number zero h = refl
rule-number (suc zero) h = refl
rule-number (suc (suc n)) h = omega arith

-- numbers that a state's table can have, but for their ranges
pub record Table (v : List ℕ) : Type 0 where
  pub long : length v ≡ 384
  pub gap : get_or v 2 0 ≡ 0
  pub gap-maps : get_or v 93 0 ≡ 0
  pub filler : get_or v 367 0 ≡ 0
  pub conditions : (j : ℕ) → j < 16 → reader_number v j 0 ≤ 2
  pub rule_known : get_or v 366 0 ≤ 1

module _ (v : List ℕ) (t : Table v) where
  -- the lists of their state have their lengths
  pub lengths-from : Lengths (state_from v)
  unfolding state_from
  lengths-from =
      let l = t.long in
      record {
        eight = omega (arith, length-take 8 (drop 5 v), length-drop 5 v);
        sixteen = length-listed (reader_from v) 16;
        marks_all = omega (arith, length-take 16 (drop 350 v), length-drop 350 v);
        expected_all = omega (arith, length-take 8 (drop 368 v), length-drop 368 v);
        attaches_all = omega (arith, length-take 8 (drop 376 v), length-drop 376 v);
        cached-all = omega (arith, length-take 128 (drop 94 v), length-drop 94 v);
        fetching-all = omega (arith, length-take 128 (drop 222 v), length-drop 222 v);
      }

  slot-from : (j : ℕ) → j < 16 → reader_numbers (reader_from v j) ≡ take 5 (drop (13 + 5 * j) v)
  unfolding range
  slot-from j l =
      (λ i.
      number_of (reader_number v j 0) (t.conditions j l) i ∷ reader_number v j 1 ∷ reader_number v j 2 ∷ reader_number v j 3 ∷ reader_number v j 4 ∷ [])
      ∙ sym (part-listed v 0 (13 + 5 * j) 5 (omega (arith, t.long)))

  slots-from : slots_of (state_from v) ≡ take 80 (drop 13 v)
  unfolding state_from
  slots-from =
      each_map reader_numbers (reader_from v) (range 0 16)
      ∙ each_same (λ j. reader_numbers (reader_from v j)) (λ j. take 5 (drop (13 + 5 * j) v)) (range 0 16)
      (range-in (λ j. reader_numbers (reader_from v j) ≡ take 5 (drop (13 + 5 * j) v)) 0 16 (λ j _ l. slot-from j l))
      ∙ each_part v 5 13 0 16

  rules-from : rules_of (state_from v) ≡ drop 366 v
  unfolding state_from
  rules-from =
      let counts = ap (λ r. take 8 (drop 368 v) ++ r) (take_all 8 (drop 376 v) (omega (arith, t.long, length-drop 376 v))) ∙ rejoin v 368 8 in
      let end = ap₂ ◌∷◌ (sym t.filler) counts ∙ sym (drop-cons v 367 0 (omega (arith, t.long))) in
      ap₂ ◌∷◌ (rule-number (get_or v 366 0) t.rule_known) end ∙ sym (drop-cons v 366 0 (omega (arith, t.long)))

  tail_from : tail_of (state_from v) ≡ drop 350 v
  unfolding state_from
  tail_from = ap (λ r. take 16 (drop 350 v) ++ r) rules-from ∙ rejoin v 350 16

  maps-from : maps_of (state_from v) ≡ drop 93 v
  unfolding state_from
  maps-from =
      let end = ap (λ r. take 128 (drop 222 v) ++ r) tail_from ∙ rejoin v 222 128 in
      ap₂ ◌∷◌ (sym t.gap-maps) (ap (λ r. take 128 (drop 94 v) ++ r) end ∙ rejoin v 94 128)
      ∙ sym (drop-cons v 93 0 (omega (arith, t.long)))

  first-from : get_or v 0 0 ∷ get_or v 1 0 ∷ 0 ∷ get_or v 3 0 ∷ get_or v 4 0 ∷ drop 5 v ≡ v
  unfolding range
  first-from =
      ap (λ n. get_or v 0 0 ∷ get_or v 1 0 ∷ n ∷ get_or v 3 0 ∷ get_or v 4 0 ∷ drop 5 v) (sym t.gap)
      ∙ ap (λ r. r ++ drop 5 v) (sym (part-listed v 0 0 5 (omega (arith, t.long))))
      ∙ take-append-drop 5 v

  -- the numbers of a table's state are its own
  pub numbers-from : state_numbers (state_from v) ≡ v
  unfolding state_from
  numbers-from =
      ap (λ w. take 13 w ++ (slots_of (state_from v) ++ maps_of (state_from v))) first-from
      ∙ ap₂ (λ a b. take 13 v ++ (a ++ b)) slots-from maps-from
      ∙ ap (λ r. take 13 v ++ r) (rejoin v 13 80) ∙ take-append-drop 13 v

-- the record that a slot's numbers make
pub reader-from : (v : List ℕ) (j : ℕ) → j < 16 → reader_at (state_from v) j ≡ reader_from v j
unfolding state_from
reader-from v j l = get_or-listed (reader_from v) 16 j no_reader l
