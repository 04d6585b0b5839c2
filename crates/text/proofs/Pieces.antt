-- The pieces between separators, and a walk over the bytes that finds them. Assumes nothing.
use Rattle.std.proofs.Common.{ℕ, suc, ◌+◌, ◌≤◌, ◌<◌, ◌≡◌, ◌∙◌, Some, None, Bool, true, false, cond, List, [], ◌∷◌, ◌++◌, length, get_or, take, drop, eqb}
use Rattle.std.proofs.Common.{refl, sym, ap, append_assoc, append-nil, arith, add-one}
use Rattle.std.proofs.Common.{eq-eqb, ne_eqb, eqb-true, length-append, drop_of_length-le, take-suc, drop-cons, length-take-le}
use Rattle.std.proofs.Math.Seq.{slice, slice_empty, drop-append-le}
use Rattle.rules.specs.Lines.{grow, split}
use Rattle.text.specs.Commands.{first_piece}

-- bytes in front of the first of some pieces
abbrev pub onto : List ℕ → List (List ℕ) → List (List ℕ)
onto bytes [] = bytes ∷ []
onto bytes (piece ∷ pieces) = (bytes ++ piece) ∷ pieces

-- by a test
pub by-test : {A : Type 0} (t : Bool) → (t ≡ true → A) → (t ≡ false → A) → A
by-test true f g = f refl
by-test false f g = g refl

-- what is there if a test passes is not there: it fails
pub none-if : {A : Type 0} (t : Bool) (x : A) → cond t (Some x) None ≡ None → t ≡ false
none-if true x e = cc
none-if false x e = refl

grow-some : (t : Bool) (b : ℕ) (pieces : List (List ℕ)) → grow t b pieces ≡ get_or (grow t b pieces) 0 [] ∷ drop 1 (grow t b pieces)
grow-some true b pieces = refl
grow-some false b [] = refl
grow-some false b (piece ∷ pieces) = refl

-- there is a first piece
pub split-some : (sep : ℕ) (l : List ℕ) → split sep l ≡ first_piece sep l ∷ drop 1 (split sep l)
unfolding split
split-some sep [] = refl
split-some sep (b ∷ bs) = grow-some (eqb b sep) b (split sep bs)

grow-onto : (b : ℕ) (pieces : List (List ℕ)) → grow false b pieces ≡ onto (b ∷ []) pieces
grow-onto b [] = refl
grow-onto b (piece ∷ pieces) = refl

-- a separator starts a piece
pub split_at : (sep : ℕ) (b : ℕ) (bs : List ℕ) → eqb b sep ≡ true → split sep (b ∷ bs) ≡ [] ∷ split sep bs
unfolding split
split_at sep b bs e = rw e

-- any other byte goes to the front of the first
pub split-on : (sep : ℕ) (b : ℕ) (bs : List ℕ) → eqb b sep ≡ false → split sep (b ∷ bs) ≡ onto (b ∷ []) (split sep bs)
unfolding split
split-on sep b bs e = rw e (grow-onto b (split sep bs))

-- bytes in front of bytes
pub onto-onto : (x y : List ℕ) (pieces : List (List ℕ)) → onto x (onto y pieces) ≡ onto (x ++ y) pieces
onto-onto x y [] = refl
onto-onto x y (piece ∷ pieces) = rw append_assoc

-- no bytes in front
pub onto-none : (sep : ℕ) (l : List ℕ) → onto [] (split sep l) ≡ split sep l
onto-none sep l = rw (split-some sep l)

-- ---- a walk from one place to another that meets no separator

-- a step makes a part longer
pub slice-more : (from i : ℕ) (l : List ℕ) → from ≤ i → i < length l → slice from (i + 1) l ≡ slice from i l ++ (get_or l i 0 ∷ [])
slice-more from i l h k =
    let j : i ≤ length l = omega arith in
    let m : from ≤ length (take i l) = rw (length-take-le i l) h in
    rw (add-one, take-suc l i 0, drop-append-le)

-- what was passed stands in front of the pieces to come
pub record Walked (sep : ℕ) (l : List ℕ) (from i : ℕ) : Type 0 where
  pub long : from + length (slice from i l) ≡ i
  pub pieces : split sep (drop from l) ≡ onto (slice from i l) (split sep (drop i l))

-- no step
pub walked_none : (sep : ℕ) (l : List ℕ) (i : ℕ) → Walked sep l i i
walked_none sep l i = record { long = rw (slice_empty i l) (omega arith); pieces = rw (slice_empty i l) (sym (onto-none sep (drop i l))) }

module _ (sep : ℕ) (l : List ℕ) (from i : ℕ) (w : Walked sep l from i) where
  far : from ≤ i
  far = omega (arith, w.long)

  -- one step, at a byte that is no separator
  pub walked_more : i < length l → (get_or l i 0 ≡ sep → ⊥) → Walked sep l from (i + 1)
  walked_more h n =
      let more = slice-more from i l far h in
      let f : from + length (slice from (i + 1) l) ≡ i + 1 = rw (more, length-append) (omega (arith, w.long)) in
      record {
        long = f;
        pieces =
            w.pieces
            ∙ ap (λ d. onto (slice from i l) (split sep d)) (drop-cons l i 0 h)
            ∙ ap (onto (slice from i l)) (split-on sep (get_or l i 0) (drop (suc i) l) (ne_eqb _ _ n))
            ∙ onto-onto (slice from i l) (get_or l i 0 ∷ []) (split sep (drop (suc i) l))
            ∙ rw (more, add-one);
      }

  -- a separator is met: what was passed is a piece
  pub walked_at : i < length l → get_or l i 0 ≡ sep → split sep (drop from l) ≡ slice from i l ∷ split sep (drop (i + 1) l)
  walked_at h e =
      w.pieces
      ∙ ap (λ d. onto (slice from i l) (split sep d)) (drop-cons l i 0 h)
      ∙ ap (onto (slice from i l)) (split_at sep (get_or l i 0) (drop (suc i) l) (eq-eqb _ _ e))
      ∙ rw (append-nil, add-one)

  -- the end is met: what was passed is the last piece
  pub walked_end : length l ≤ i → split sep (drop from l) ≡ slice from i l ∷ []
  unfolding split
  walked_end h = w.pieces ∙ rw (drop_of_length-le l h, append-nil)

-- ---- the place after the first piece

-- a byte that is no separator is in front of the first piece
pub first_on : (sep b : ℕ) (bs : List ℕ) → eqb b sep ≡ false → first_piece sep (b ∷ bs) ≡ b ∷ first_piece sep bs
first_on sep b bs e = rw (split-on sep b bs e, split-some sep bs)

-- it is in no other
rest-on : (sep b : ℕ) (bs : List ℕ) → eqb b sep ≡ false → drop 1 (split sep (b ∷ bs)) ≡ drop 1 (split sep bs)
rest-on sep b bs e = rw (split-on sep b bs e, split-some sep bs)

-- the other pieces stand after the first one, which ends with the bytes or at a separator
pub record AfterFirst (sep : ℕ) (l : List ℕ) : Type 0 where
  pub others : drop 1 (split sep l) ≡ drop 1 (split sep (drop (length (first_piece sep l)) l))
  pub separator : length (first_piece sep l) < length l → get_or l (length (first_piece sep l)) 0 ≡ sep

after-at : (sep b : ℕ) (bs : List ℕ) → eqb b sep ≡ true → AfterFirst sep (b ∷ bs)
after-at sep b bs e =
    let f : first_piece sep (b ∷ bs) ≡ [] = rw (split_at sep b bs e) in
    record { others = rw f; separator = rw f (λ _. eqb-true b sep e) }

after_on : (sep b : ℕ) (bs : List ℕ) → eqb b sep ≡ false → AfterFirst sep bs → AfterFirst sep (b ∷ bs)
after_on sep b bs e more =
    let f = first_on sep b bs e in
    record {
      others = rest-on sep b bs e ∙ more.others ∙ rw f;
      separator = rw f (λ h. more.separator (omega arith));
    }

-- so it is with any bytes
pub after_first : (sep : ℕ) (l : List ℕ) → AfterFirst sep l
unfolding split
after_first sep [] = record { others = refl; separator = λ h. absurd (omega arith) }
after_first sep (b ∷ bs) = by-test (eqb b sep) (after-at sep b bs) (λ e. after_on sep b bs e (after_first sep bs))
