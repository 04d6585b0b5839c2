-- Questions made of numbers, and the rows that are handed over. Assumes nothing.
use Rattle.std.proofs.Common.{Result, ◌≡◌, refl, ap, ◌∙◌, List, [], ◌∷◌, ◌++◌, ℕ, zero, suc, min, ◌+◌, ◌*◌, ◌/◌, ◌<◌, length, get_or, take, drop}
use Rattle.std.proofs.Common.{arith, append-nil, drop_of_length-le, map-id, le_refl, sym, ap₂, map, replicate, take_at, length-take-le}
use Rattle.std.proofs.lemmas.List.{take-replicate}
use native.Mathlib.Nat.{zero-min, min-zero, suc-min-suc}
use Rattle.rules.specs.Listings.{Written}
use Rattle.rules.specs.Questions.{questions_of}
use Rattle.rules.specs.declared.Forecast.{Forecast}
use Rattle.rules.specs.declared.Keys.{Keys}
use Rattle.rules.specs.declared.Question.{Question}
use Rattle.rules.specs.declared.Refusal.{Refusal}
use Rattle.rules.specs.declared.State.{State}
use Rattle.questions.proofs.Filled.{filled_to}
use Rattle.probe.specs.Probes.{order_number, list_asked, questions_in, forecast_number, listing_number, unanswered, answered, when_asked}

-- ---- an order

-- its number and its list are those of what made it
pub order-made : (order : State → List ℕ → Written (Result Keys Refusal) ℕ) (s : State) (lent after : List ℕ) (a : Result Keys Refusal) (n : ℕ)
    → ◌≡◌ {A = Written (Result Keys Refusal) ℕ} (record { answer = a; list = after }) (order s lent) → n ≡ order_number a
    → record { number = n; list = after } ≡ list_asked order s lent
order-made order s lent after a n e f = rw f (ap (λ w. record { number = order_number w.answer; list = w.list }) e)

-- ---- parts of a list

module _ {A : Type 0} where
  -- the first n, or all that there are
  pub take-least : (n : ℕ) (l : List A) → take (min n (length l)) l ≡ take n l
  take-least zero l = ap (λ k. take k l) (zero-min (length l))
  take-least (suc n) [] = ap (λ k. take {A = A} k []) (min-zero (suc n))
  take-least (suc n) (x ∷ l) = ap (λ k. take k (x ∷ l)) (suc-min-suc n (length l)) ∙ ap (λ (t : List A). x ∷ t) (take-least n l)

  -- what is behind them
  pub drop-least : (n : ℕ) (l : List A) → drop (min n (length l)) l ≡ drop n l
  drop-least zero l = ap (λ k. drop k l) (zero-min (length l))
  drop-least (suc n) [] = ap (λ k. drop {A = A} k []) (min-zero (suc n))
  drop-least (suc n) (x ∷ l) = ap (λ k. drop k (x ∷ l)) (suc-min-suc n (length l)) ∙ drop-least n l

-- ---- questions of numbers

-- the question of two numbers is one of those in the list
pub question-in : (numbers : List ℕ) (i : ℕ) (d : Question) → 2 * i + 1 < length numbers
    → (i < length (questions_in numbers))
    × (get_or (questions_in numbers) i d ≡ record { file = get_or numbers (2 * i) 0; page = get_or numbers (2 * i + 1) 0 })
unfolding questions_in
question-in [] i d h = let z : ⊥ = omega arith in absurd z
question-in (file ∷ []) i d h = let z : ⊥ = omega arith in absurd z
question-in (file ∷ page ∷ rest) zero d h = (omega arith, refl)
question-in (file ∷ page ∷ rest) (suc i) d h =
    let e : 2 * suc i ≡ suc (suc (2 * i)) = omega arith in
    let f : suc (suc (2 * i)) + 1 ≡ suc (suc (2 * i + 1)) = omega arith in
    let p = question-in rest i d (omega arith) in
    (omega (arith, p.0), rw (e, f) p.1)

-- two numbers each
pub question-count : (numbers : List ℕ) → length (questions_in numbers) ≡ length numbers / 2
unfolding questions_in
question-count [] = refl
question-count (file ∷ []) = refl
question-count (file ∷ page ∷ rest) = omega (arith, question-count rest)

-- as many as there are places are made
pub made-all : (n : ℕ) (made before : List Question) → n ≡ length before → filled_to n (λ q. q) made before ≡ take (length before) made
unfolding filled_to
made-all n made before e =
    rw (e, drop_of_length-le before (le_refl (length before)), append-nil) (map-id (take (length before) made))

-- ---- the call

module _ (s : State) (numbers lent : List ℕ) (asked room : ℕ) (m : asked ≡ min 1025 (length numbers / 2)) (k : room ≡ min 1025 (length lent)) where
  -- the records are the questions that are handed over
  records : (made none : List Question) → length none ≡ 1025 → made ≡ take (length (take asked none)) (questions_in numbers)
      → take asked (made ++ drop asked none) ≡ take 1025 (questions_in numbers)
  records made none l e =
      let some : length (take asked none) ≡ asked = length-take-le asked none (omega arith) in
      let p : asked ≡ min 1025 (length (questions_in numbers)) = m ∙ ap (min 1025) (sym (question-count numbers)) in
      let first : made ≡ take asked (questions_in numbers) = e ∙ ap (λ i. take i (questions_in numbers)) some in
      let many : length made ≡ asked = ap length first ∙ length-take-le asked (questions_in numbers) (omega arith) in
      take_at made (drop asked none) asked many ∙ first ∙ ap (λ i. take i (questions_in numbers)) p ∙ take-least 1025 (questions_in numbers)

  -- so the number and the list are those of the call
  pub when-made : (made none : List Question) (rows blank : List Forecast) (words : Result ℕ Refusal) (after : List ℕ) (n : ℕ) → length none ≡ 1025
      → made ≡ take (length (take asked none)) (questions_in numbers) → length rows ≡ room
      → ◌≡◌ {A = Written (Result ℕ Refusal) Forecast} (record { answer = words; list = rows })
      (questions_of s (take asked (made ++ drop asked none)) (take room (replicate 1025 unanswered)))
      → after ≡ map forecast_number (take room (rows ++ drop room blank)) ++ drop (length (take room (rows ++ drop room blank))) lent
      → n ≡ listing_number words
      → record { number = n; list = after } ≡ when_asked numbers s lent
  when-made made none rows blank words after n l e r f g h =
      let alike : take room (replicate 1025 unanswered) ≡ replicate (min 1025 (length lent)) unanswered =
      take-replicate room 1025 unanswered (omega arith) ∙ ap (λ i. replicate i unanswered) k in
      let call : ◌≡◌ {A = Written (Result ℕ Refusal) Forecast} (record { answer = words; list = rows }) (answered s numbers lent) =
      f ∙ ap₂ (questions_of s) (records made none l e) alike in
      let front : take room (rows ++ drop room blank) ≡ rows = take_at rows (drop room blank) room r in
      let put : after ≡ map forecast_number rows ++ drop 1025 lent =
      g ∙ rw (front, r, k, drop-least 1025 lent) refl in
      rw (h, put)
      (ap (λ (w : Written (Result ℕ Refusal) Forecast).
      record { number = listing_number w.answer; list = map forecast_number w.list ++ drop 1025 lent }) call)
