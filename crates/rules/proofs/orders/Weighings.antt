-- The choice of the 1993 rule (A.6), of any pages in which no key stands twice: the file is the one whose number none is above, its first page goes, and
-- repeating the choice is sorting each page by the number of its file where it and the pages behind it are left. For the page that goes has the largest such
-- number, and no other page's number changes when it goes. By induction on how many pages are left. Assumes nothing.
use mathlib.Core.Path.{◌≡◌, refl, sym, ap, ap₂, ◌∙◌, subst}
use mathlib.Core.Bool.{Bool, true, false, not, cond}
use mathlib.Core.List.{List, [], ◌∷◌, ◌++◌, map}
use Rattle.std.specs.declared.option.Option.TheVariants.{Some}
use mathlib.Core.Logic.{◌≢◌}
use Prim.Native.Nat.{ℕ, zero, suc, ◌+◌, ◌*◌, ◌%◌, ◌≤◌, ◌<◌}
use native.Mathlib.Nat.{mul-le-mul, mul-le-mul_right, suc-mul}
use native.Mathlib.Omega.{arith}
use lib.ListN.{length}
use lib.Dec.{T, leb, eqb, le→leb, leb→le, eqb→eq, eqb_refl}
use borrow.Author.Tests.{eq-eqb, ne_eqb}
use Rattle.rules.specs.Lists.{only, every, total, put, sorted, head, falling}
use Rattle.rules.specs.Pages.{file_of}
use Rattle.rules.specs.Orders.{of_file, count_of, weight_sum, surplus, standing, standing_in, from_chosen, choice, repeated}
use Rattle.rules.specs.Ranks.{weighed}
use Rattle.rules.specs.Schedules.{num}
use Rattle.rules.proofs.laws.Tests.{key, both, is_true, is_false}
use Rattle.rules.proofs.laws.Members.{All, all_map, all_both, all-only, only-alike}
use Rattle.rules.proofs.laws.Indexed.{every-all, all-every}
use Rattle.rules.proofs.laws.Sorts.{split-falling}
use Rattle.rules.proofs.laws.Onces.{
  times,
  Once,
  but,
  only-length,
  only-mono,
  times-self,
  but-length,
  but-none,
  but-shorter,
  once-rest,
  once-only,
  head-some,
  head-there,
  there,
  largest,
}

-- the keys of the maps
abbrev pub Low : ℕ → Type 0
Low k = k < 8192

count-more : (x : ℕ) (l : List ℕ) (f : ℕ) → count_of l f ≤ count_of (x ∷ l) f
count-more x l f = omega (arith, only-length (λ k. eqb (file_of k) f) x l)

pub count-self : (x : ℕ) (l : List ℕ) (f : ℕ) → file_of x ≡ f → count_of (x ∷ l) f ≡ count_of l f + 1
count-self x l f e =
    only-length (λ k. eqb (file_of k) f) x l
    ∙ key (file_of x) f (λ b. num b + count_of l f ≡ count_of l f + 1) (λ _. omega arith) (λ ne. absurd (ne e))

pub count-other : (x : ℕ) (l : List ℕ) (f : ℕ) → file_of x ≢ f → count_of (x ∷ l) f ≡ count_of l f
count-other x l f ne =
    only-length (λ k. eqb (file_of k) f) x l
    ∙ key (file_of x) f (λ b. num b + count_of l f ≡ count_of l f) (λ e. absurd (ne e)) (λ _. omega arith)

-- a page that stands there counts for its file
pub times-count : (k : ℕ) (l : List ℕ) → times k l ≤ count_of l (file_of k)
times-count k l =
    only-mono (λ j. eqb j k) (λ j. eqb (file_of j) (file_of k)) l
    (λ j h. subst (λ i. T (eqb (file_of i) (file_of k))) (sym (eqb→eq j k h)) (eqb_refl (file_of k)))

-- the sum of the weights is above 0
pub sum-positive : (weight : ℕ → ℕ) → 1 ≤ weight_sum weight
unfolding weight_sum
sum-positive weight = key (total 8 weight) 0 (λ b. 1 ≤ cond b 1 (total 8 weight)) (λ _. omega arith) (λ ne. omega (arith, ne))

-- a file with cached pages has a number above 0
pub standing-positive : (frames sum w f n : ℕ) → 1 ≤ sum → 1 ≤ n → 1 ≤ standing frames sum w f n
unfolding standing surplus
standing-positive frames sum w f n a b = let p : 1 * 1 ≤ n * sum = mul-le-mul b a in omega (arith, p)

module _ (frames : ℕ) (weight : ℕ → ℕ) where
  -- the number of file f with n cached pages
  abbrev at : ℕ → ℕ → ℕ
  at f n = standing frames (weight_sum weight) (weight f) f n

  -- the number of the page's file, all these pages being left
  abbrev pub file_number : List ℕ → ℕ → ℕ
  file_number l k = standing_in frames weight l (file_of k)

  -- more pages, a higher number
  standing-rises : (f a b : ℕ) → a ≤ b → at f a ≤ at f b
  unfolding standing surplus
  standing-rises f a b l = omega (arith, mul-le-mul_right (weight_sum weight) l)

  number-rises : (x : ℕ) (l : List ℕ) (j : ℕ) → file_number l j ≤ file_number (x ∷ l) j
  number-rises x l j = standing-rises (file_of j) (count_of l (file_of j)) (count_of (x ∷ l) (file_of j)) (count-more x l (file_of j))

  standing-grows : (f a : ℕ) → at f a < at f (a + 1)
  unfolding standing surplus
  standing-grows f a =
      let W : ℕ = weight_sum weight in
      let e : suc a * W ≡ a * W + W = suc-mul a W in
      let n : a + 1 ≡ suc a = omega arith in
      rw n (omega (arith, e, sum-positive weight))

  -- files of one number are one file
  standing-one : (f g a b : ℕ) → f < 8 → g < 8 → at f a ≡ at g b → f ≡ g
  unfolding standing
  standing-one f g a b l m e = omega arith

  -- ---- the choice

  -- the file's number is above that of none of the pages' files
  abbrev pub Top : List ℕ → ℕ → Type 0
  Top l b = All (λ j. file_number l j ≤ at b (count_of l b)) l

  -- a file with pages has one of them
  file_there : (l : List ℕ) (b : ℕ) → 1 ≤ count_of l b → (j : ℕ) × (file_of j ≡ b) × (1 ≤ times j l)
  file_there l b h =
      let m = head-some (of_file b l) h in
      let r = head-there (λ k. eqb (file_of k) b) l m.0 m.1 in
      (m.0, eqb→eq (file_of m.0) b r.0, r.1)

  -- page k is of the file b, or not: so it is chosen, or not
  chosen-test : (l : List ℕ) (b : ℕ) → b < 8 → 1 ≤ count_of l b → Top l b → (k : ℕ) → Low k → file_number l k ≤ at b (count_of l b)
      → from_chosen frames weight l k ≡ eqb (file_of k) b
  unfolding from_chosen
  chosen-test l b lb Some-of top k lk le =
      key (file_of k) b (λ t. every (λ j. leb (file_number l j) (file_number l k)) l ≡ t)
      (λ e. is_true _ (all-every (λ j. leb (file_number l j) (file_number l k)) l
      (all_map _ _ l (λ j h. le→leb (file_number l j) (file_number l k) (subst (λ f. file_number l j ≤ at f (count_of l f)) (sym e) h)) top)))
      (λ ne. is_false _ (other ne))
    where
      other : file_of k ≢ b → T (not (every (λ j. leb (file_number l j) (file_number l k)) l))
      other ne =
          both (every (λ j. leb (file_number l j) (file_number l k)) l) (λ t. (T t → T (every (λ j. leb (file_number l j) (file_number l k)) l)) → T (not t))
          (λ _ h.
          let all = every-all (λ j. leb (file_number l j) (file_number l k)) l (h tt) in
          let m = file_there l b Some-of in
          let up = leb→le (file_number l m.0) (file_number l k) (there (λ j. T (leb (file_number l j) (file_number l k))) m.0 l all m.2) in
          let up' : at b (count_of l b) ≤ file_number l k = subst (λ f. at f (count_of l f) ≤ file_number l k) m.1 up in
          ne (standing-one (file_of k) b (count_of l (file_of k)) (count_of l b) (omega arith) lb (omega arith)))
          (λ _ _. tt) (λ h. h)

  -- the first page of a file whose number none is above is the one to go
  pub choice-is : (l : List ℕ) (b : ℕ) → b < 8 → All Low l → 1 ≤ count_of l b → Top l b → choice frames weight l ≡ head (of_file b l)
  unfolding choice
  choice-is l b lb low Some-of top =
      ap head (only-alike (from_chosen frames weight l) (λ k. eqb (file_of k) b) l
      (all_map _ _ l (λ k h. chosen-test l b lb Some-of top k h.0 h.1) (all_both Low _ l low top)))

  -- page u goes: it is its file's first, and no file's number is above that of its file
  pub record Goes (l : List ℕ) (u : ℕ) : Type 0 where
    pub is : choice frames weight l ≡ Some u
    pub first : head (of_file (file_of u) l) ≡ Some u
    pub top : Top l (file_of u)
    pub here : 1 ≤ times u l

  -- of pages one goes
  pub goes : (x : ℕ) (l : List ℕ) → All Low (x ∷ l) → (u : ℕ) × Goes (x ∷ l) u
  goes x l low =
      let all : List ℕ = x ∷ l in
      let r = largest (file_number all) x l in
      let b : ℕ = file_of r.0 in
      let lb : b < 8 = there (λ k. file_of k < 8) r.0 all (all_map Low (λ k. file_of k < 8) all (λ k h. omega arith) low) r.1 in
      let held : 1 ≤ count_of all b = omega (arith, r.1, times-count r.0 all) in
      let m = head-some (of_file b all) held in
      let t = head-there (λ k. eqb (file_of k) b) all m.0 m.1 in
      let e : file_of m.0 ≡ b = eqb→eq (file_of m.0) b t.0 in (
        m.0,
        record {
          is = choice-is all b lb low held r.2 ∙ m.1;
          first = rw e m.1;
          top = subst (Top all) (sym e) r.2;
          here = t.1;
        },
      )

  -- ---- repeating it

  abbrev packs : List ℕ → List ℕ
  packs = weighed frames weight

  -- where each file's number is below B, so is each page's
  below : (B : ℕ) (m : List ℕ) → All Low m → All (λ j. file_number m j < B) m → All (λ y. y < B * 8192) (packs m)
  unfolding weighed
  below B [] low h = tt
  below B (k ∷ m) low h =
      (omega (arith, h.0, low.0), below B m low.1 (all_map _ _ m (λ j l. omega (arith, l, number-rises k m j)) h.1))

  -- what is below a number is not that number
  none_above : (x : ℕ) (m : List ℕ) → All (λ y. y < x) m → (only (λ y. eqb y x) m ≡ []) × (but x m ≡ m)
  unfolding only
  none_above x [] h = (refl, refl)
  none_above x (y ∷ m) h =
      let e : eqb y x ≡ false = ne_eqb y x (λ q. omega (arith, h.0)) in
      let r = none_above x m h.1 in
      (rw e r.0, rw e (ap (λ l. y ∷ l) r.1))

  -- the page that goes, and the others with their numbers
  record Parted (l : List ℕ) (u x : ℕ) : Type 0 where
    one : only (λ y. eqb y x) (packs l) ≡ x ∷ []
    rest : but x (packs l) ≡ packs (but u l)
    most : All (λ y. y ≤ x) (packs l)

  module _ (u B : ℕ) where
    abbrev x : ℕ
    x = B * 8192 + u

    abbrev f : ℕ
    f = file_of u

    -- a page of another file stands in front
    part-other : (k : ℕ) (l : List ℕ) → Low k → file_of k ≢ f → file_of k < 8 → f < 8 → times u l ≡ 1 → B ≡ at f (count_of l f)
        → file_number (k ∷ l) k ≤ B → Parted l u x → Parted (k ∷ l) u x
    unfolding weighed only
    part-other k l lk ne kb fb there-once b le p =
        let y : ℕ = file_number (k ∷ l) k * 8192 + k in
        let d : file_number (k ∷ l) k ≢ B = λ e. ne (standing-one (file_of k) f (count_of (k ∷ l) (file_of k)) (count_of l f) kb fb (e ∙ b)) in
        let lower : y < x = omega (arith, le, d) in
        let e : eqb y x ≡ false = ne_eqb y x (λ q. omega arith) in
        let o : eqb k u ≡ false = ne_eqb k u (λ q. ne (ap file_of q)) in
        let same : count_of (k ∷ l) (file_of k) ≡ count_of (k ∷ but u l) (file_of k) =
        count-self k l (file_of k) refl
        ∙ ap (λ n. n + 1) (but-length (λ j. eqb (file_of j) (file_of k)) u l there-once
        ∙ ap (λ t. num t + count_of (but u l) (file_of k)) (ne_eqb f (file_of k) (λ q. ne (sym q))) ∙ omega arith)
        ∙ sym (count-self k (but u l) (file_of k) refl) in
        record {
          one = rw e p.one;
          rest = rw (e, o) (ap₂ (λ i m. (at (file_of k) i * 8192 + k) ∷ m) same p.rest);
          most = (omega arith, p.most);
        }

    -- the page itself stands in front
    part-self : (l : List ℕ) → All Low l → times u l ≡ 0 → u < 8192 → B ≡ at f (count_of (u ∷ l) f) → All (λ j. file_number (u ∷ l) j ≤ B) l
        → Parted (u ∷ l) u x
    unfolding weighed only
    part-self l low out lu b top =
        let under : All (λ z. z < B * 8192) (packs l) =
        below B l low (all_map _ _ l (λ j h. lower j h.0 h.1) (all_both Low _ l low top)) in
        let away = none_above x (packs l) (all_map _ _ (packs l) (λ z h. omega arith) under) in
        let e : eqb (file_number (u ∷ l) u * 8192 + u) x ≡ true = eq-eqb _ x (ap (λ i. i * 8192 + u) (sym b)) in
        let o : eqb u u ≡ true = eq-eqb u u refl in
        record {
          one = rw e (ap₂ ◌∷◌ (ap (λ i. i * 8192 + u) (sym b)) away.0);
          rest = rw (e, o) (away.1 ∙ ap packs (sym (but-none u l out)));
          most = (omega (arith, b), all_map _ _ (packs l) (λ z h. omega arith) under);
        }
      where
        lower : (j : ℕ) → Low j → file_number (u ∷ l) j ≤ B → file_number l j < B
        lower j lj le =
            key (file_of j) f (λ _. file_number l j < B)
            (λ e. rw e (omega (arith, standing-grows f (count_of l f), ap (at f) (count-self u l f refl), b)))
            (λ ne.
            let low : f < 8 = omega (arith, lu) in
            let d : file_number l j ≢ B = λ q. ne (standing-one (file_of j) f (count_of l (file_of j)) (count_of (u ∷ l) f) (omega arith) low (q ∙ b)) in
            omega (arith, le, number-rises u l j, d))

    parted : (l : List ℕ) → All Low l → Once l → u < 8192 → times u l ≡ 1 → head (of_file f l) ≡ Some u → B ≡ at f (count_of l f)
        → All (λ j. file_number l j ≤ B) l → Parted l u x
    unfolding only
    parted [] low once lu here first b top = absurd (omega arith)
    parted (k ∷ l) low once lu here first₀ b top =
        key (file_of k) f (λ t. head (cond t (k ∷ of_file f l) (of_file f l)) ≡ Some u → Parted (k ∷ l) u x)
        (λ e first. let q : k ≡ u = cc in self q)
        (λ ne first.
        let away : times u (k ∷ l) ≡ times u l =
        only-length (λ j. eqb j u) k l ∙ ap (λ t. num t + times u l) (ne_eqb k u (λ q. ne (ap file_of q))) ∙ omega arith in
        let there-once : times u l ≡ 1 = sym away ∙ here in
        let b' : B ≡ at f (count_of l f) = b ∙ ap (at f) (count-other k l f ne) in
        part-other k l low.0 ne (omega (arith, low.0)) (omega (arith, lu)) there-once b' top.0
        (parted l low.1 (once-rest k l once) lu there-once first b'
        (all_map _ _ l (λ j h. omega (arith, h, number-rises k l j)) top.1)))
        first₀
      where
        self : k ≡ u → Parted (k ∷ l) u x
        self q =
            let out : times u l ≡ 0 = omega (arith, here, times-self u l, ap (λ i. times u (i ∷ l)) q) in
            subst (λ i. Parted (i ∷ l) u x) (sym q)
            (part-self l low.1 out lu (b ∙ ap (λ i. at f (count_of (i ∷ l) f)) q)
            (subst (λ i. All (λ j. file_number (i ∷ l) j ≤ B) l) q top.1))

  -- what goes first, by the number, and what is left
  first_out : (l : List ℕ) (u : ℕ) → All Low l → Once l → Goes l u
      → falling (λ n. n) (packs l) ≡ (file_number l u * 8192 + u) ∷ falling (λ n. n) (packs (but u l))
  unfolding sorted put
  first_out l u low once g =
      let lu : u < 8192 = there Low u l low g.here in
      let p = parted u (file_number l u) l low once lu (omega (arith, g.here, once u)) g.first refl g.top in
      let y : ℕ = file_number l u * 8192 + u in
      split-falling (λ n. n) (λ z. eqb z y) (λ z. z ≤ y)
      (λ a b la lb is not_is. omega (arith, eqb→eq a y is, lb, not_eqb b y not_is)) (packs l) p.most
      ∙ ap₂ ◌++◌ (ap (falling (λ n. n)) p.one) (ap (falling (λ n. n)) p.rest)
    where
      not_eqb : (a b : ℕ) → T (not (eqb a b)) → a ≢ b
      not_eqb a b = key a b (λ t. T (not t) → a ≢ b) (λ _ h. absurd h) (λ ne _. ne)

  -- once one of pages goes, the others are such pages too
  record Left (n : ℕ) (l : List ℕ) (u : ℕ) : Type 0 where
    low : All Low (but u l)
    once : Once (but u l)
    few : length (but u l) ≡ n

  left : (n : ℕ) (l : List ℕ) (u : ℕ) → All Low l → Once l → length l ≡ suc n → Goes l u → Left n l u
  left n l u low once few g = record {
    low = all_map _ _ (but u l) (λ k h. h.1) (all-only (λ j. not (eqb j u)) Low l low);
    once = once-only (λ j. not (eqb j u)) l once;
    few = omega (arith, but-shorter u l (omega (arith, g.here, once u)));
  }

  pub repeat-goes : (n : ℕ) (l : List ℕ) (u : ℕ) → choice frames weight l ≡ Some u → repeated frames weight (suc n) l ≡ u ∷ repeated frames weight n (but u l)
  unfolding repeated
  repeat-goes n l u e = rw e

  -- repeating the choice is sorting by the numbers
  pub weighed-order : (n : ℕ) (l : List ℕ) → length l ≡ n → All Low l → Once l
      → repeated frames weight n l ≡ map (λ y. y % 8192) (falling (λ y. y) (packs l))
  unfolding weighed sorted repeated
  weighed-order zero [] few low once = refl
  weighed-order zero (x ∷ l) few low once = absurd (omega arith)
  weighed-order (suc n) [] few low once = absurd (omega arith)
  weighed-order (suc n) (x ∷ l) few low once =
      let all : List ℕ = x ∷ l in
      let g = goes x l low in
      let u : ℕ = g.0 in
      let r = left n all u low once few g.1 in
      let lu : u < 8192 = there Low u all low g.1.here in
      repeat-goes n all u g.1.is
      ∙ ap₂ ◌∷◌ (omega (arith, lu)) (weighed-order n (but u all) r.few r.low r.once)
      ∙ ap (map (λ y. y % 8192)) (sym (first_out all u low once g.1))

  -- and every page goes, each once: a test is passed as often as before
  pub repeated-same : (n : ℕ) (l : List ℕ) → length l ≡ n → All Low l → Once l → (P : ℕ → Bool)
      → length (only P (repeated frames weight n l)) ≡ length (only P l)
  unfolding repeated
  repeated-same zero [] few low once P = refl
  repeated-same zero (x ∷ l) few low once P = absurd (omega arith)
  repeated-same (suc n) [] few low once P = absurd (omega arith)
  repeated-same (suc n) (x ∷ l) few low once P =
      let all : List ℕ = x ∷ l in
      let g = goes x l low in
      let u : ℕ = g.0 in
      let r = left n all u low once few g.1 in
      ap (λ m. length (only P m)) (repeat-goes n all u g.1.is)
      ∙ only-length P u (repeated frames weight n (but u all))
      ∙ ap (λ m. num (P u) + m) (repeated-same n (but u all) r.few r.low r.once P)
      ∙ sym (but-length P u all (omega (arith, g.1.here, once u)))
