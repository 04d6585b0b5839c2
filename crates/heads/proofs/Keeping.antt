-- What stays of the heads kept: over a state that is alike in a file, over a turn that passes it, over what is forgotten. Assumes nothing.
use Rattle.std.proofs.Common.{ℕ, ◌+◌, ◌≤◌, ◌<◌, ◌≡◌, ◌≢◌, ◌∙◌, false, ◌&&◌, None, Some, T, eqb, sym, ap, subst, arith}
use mathlib.Core.Bool.{and-false}
use native.Mathlib.Decide.{dec_lt}
use borrow.Author.Tests.{lt-ltb, le-ltb, ne_eqb}
use lib.Dec.{eqb→eq}
use Rattle.rules.specs.Pages.{file_of, cached}
use Rattle.rules.specs.Readers.{attached}
use Rattle.rules.specs.Valid.{Valid}
use Rattle.rules.specs.UseTimes.{never}
use Rattle.rules.specs.Ranks.{rank, cached_among}
use Rattle.rules.proofs.laws.Tests.{and_both, and_first, and_second}
use Rattle.rules.proofs.orders.Local.{SameFile, rank-local}
use Rattle.rules.proofs.orders.Passing.{PassedFile, rank-passed}
use Rattle.rules.specs.declared.State.{State}
use Rattle.rules.specs.declared.Reader.{Reader}
use Rattle.uses.specs.declared.Pick.{Pick}
use Rattle.heads.specs.Heads.{alone, lasting, HeadIs, NoneKnown, Kept, Forgot, NotRead}
use Rattle.heads.specs.declared.Heads.{Heads}

-- a page of a file's own set is of the file
pub alone-file : (s : State) (f k : ℕ) → T (cached_among (alone f) s k) → file_of k ≡ f
alone-file s f k h = eqb→eq (file_of k) f (and_second (cached s k) _ h)

-- ---- the numbers

-- to a use key the turns made are added
pub lasting-near : (done r : ℕ) → r < never → lasting done r ≡ r + done
lasting-near done r l = rw (lt-ltb r never l)

-- any other rank stays as it is
pub lasting-far : (done r : ℕ) → never ≤ r → lasting done r ≡ r
lasting-far done r l = rw (le-ltb r never l)

-- ---- a head in two states

module _ (s t : State) (d e f : ℕ) where
  -- where a file's pages are cached in both or in neither, with one number, its head is one
  head-alike : ((k : ℕ) → file_of k ≡ f → cached s k ≡ cached t k) → ((k : ℕ) → file_of k ≡ f → lasting d (rank s k) ≡ lasting e (rank t k))
      → (p : Pick) → HeadIs s d (alone f) 8 p → HeadIs t e (alone f) 8 p
  head-alike same one p a = record {
    held = λ l. there p.key (a.held l);
    its = λ l. sym (one p.key (alone-file s f p.key (a.held l))) ∙ a.its l;
    top = λ k l c. let q = alone-file t f k c in rw (← one k q) (a.top k l (back k c));
  }
    where
      there : (k : ℕ) → T (cached_among (alone f) s k) → T (cached_among (alone f) t k)
      there k c = and_both (cached t k) _ (subst T (same k (alone-file s f k c)) (and_first (cached s k) _ c)) (and_second (cached s k) _ c)

      back : (k : ℕ) → T (cached_among (alone f) t k) → T (cached_among (alone f) s k)
      back k c = and_both (cached s k) _ (subst T (sym (same k (alone-file t f k c))) (and_first (cached t k) _ c)) (and_second (cached t k) _ c)

module _ (s t : State) (done f : ℕ) where
  -- two states alike in the file
  pub head-same : SameFile f t s → (p : Pick) → HeadIs s done (alone f) 8 p → HeadIs t done (alone f) 8 p
  head-same a =
      head-alike s t done done f (λ k q. sym (a.like.cached-same k q)) (λ k q. ap (lasting done) (sym (rank-local t s k (rw q a))))

  -- a turn that passed it
  pub head_passed : Valid s → Valid t → PassedFile f s t → (p : Pick) → HeadIs s done (alone f) 8 p → HeadIs t (done + 1) (alone f) 8 p
  head_passed v w a = head-alike s t done (done + 1) f a.like.cached-same (λ k q. by k (rank-passed s t v w k (rw q a)) (dec_lt (rank s k) never))
    where
      by : (k : ℕ) → (rank s k < never → rank s k ≡ rank t k + 1) × (never ≤ rank s k → rank s k ≡ rank t k) → Dec (rank s k < never)
          → lasting done (rank s k) ≡ lasting (done + 1) (rank t k)
      by k p (yes l) =
          let e = p.0 l in
          lasting-near done (rank s k) l ∙ (omega (arith, e)) ∙ sym (lasting-near (done + 1) (rank t k) (omega (arith, e)))
      by k p (no l) =
          let e = p.1 (omega arith) in
          lasting-far done (rank s k) (omega arith) ∙ e ∙ sym (lasting-far (done + 1) (rank t k) (omega (arith, e)))

-- ---- what is kept

-- of no file is a head known at first
pub kept-none : (s : State) (done : ℕ) (heads : Heads) → NoneKnown heads → Kept s done heads
kept-none s done heads none = record { each = λ f l p e. absurd (none-some (sym (none f l) ∙ e)) }
  where
    none-some : {A : Type 0} {x : A} → None ≡ Some x → ⊥
    none-some e = cc

-- what is not forgotten stays, where each such head does
pub kept-over : (s t : State) (d e : ℕ) (heads left : Heads) (Stays : ℕ → Type 0) → Forgot heads Stays left
    → ((f : ℕ) → f < 8 → Stays f → (p : Pick) → HeadIs s d (alone f) 8 p → HeadIs t e (alone f) 8 p) → Kept s d heads → Kept t e left
kept-over s t d e heads left Stays o over a = record {
  each = λ f l p q. over f l (o.stays f l p q) p (a.each f l p (o.same f l p q));
}

-- ---- what is forgotten

-- nothing is
pub forgot_none : (heads : Heads) (Stays : ℕ → Type 0) → ((f : ℕ) → Stays f) → Forgot heads Stays heads
forgot_none heads Stays all = record { stays = λ f l p q. all f; same = λ f l p q. q }

-- for another reason
pub forgot-as : (heads left : Heads) (P Q : ℕ → Type 0) → ((f : ℕ) → P f → Q f) → Forgot heads P left → Forgot heads Q left
forgot-as heads left P Q so a = record { stays = λ f l p q. so f (a.stays f l p q); same = a.same }

-- twice
pub forgot-both : (heads left less : Heads) (P Q : ℕ → Type 0) → Forgot heads P left → Forgot left Q less → Forgot heads (λ f. P f × Q f) less
forgot-both heads left less P Q a b = record {
  stays = λ f l p q. (a.stays f l p (b.same f l p q), b.stays f l p q);
  same = λ f l p q. a.same f l p (b.same f l p q);
}

-- a file other than a reader's is not read by it
pub not-read : (r : Reader) (f : ℕ) → f ≢ r.file → NotRead f r
not-read r f ne = ap (λ b. attached r && b) (ne_eqb r.file f (λ e. ne (sym e))) ∙ and-false (attached r)

-- and none by an empty slot
pub none_read : (r : Reader) (f : ℕ) → attached r ≡ false → NotRead f r
none_read r f e = ap (λ b. b && eqb r.file f) e
