-- Steal list, Fetch list and Clusters: 01, "Calls"; what making the two orders reports: A.3. What a call with a lent list gives, `Written`, is A.4's too.
-- Assumes nothing: these are definitions.
use Rattle.std.specs.Prelude.{ℕ, ◌/◌, cond, List, ◌++◌, length, drop, ltb}
use Rattle.rules.specs.Pages.{clusters}
use Rattle.rules.specs.UseTimes.{tested}
use Rattle.rules.specs.Orders.{steal_order, fetch_order}
use Rattle.rules.specs.Calls.{no_file}
use Rattle.rules.specs.declared.State.{State}
use Rattle.rules.specs.declared.Keys.{Keys}
use Rattle.rules.specs.declared.Refusal.{Refusal}
use Rattle.rules.specs.declared.Refusal.TheVariants.{NoFile, NoRoom}
use Rattle.rules.specs.Refusals.{refusal_number}
use Rattle.std.specs.declared.result.Result.{Result}
use Rattle.std.specs.declared.result.Result.TheVariants.{Ok, Err}

-- the refusal's number; 0, which none has, where the call is carried out
abbrev pub refused_in : {A : Type 0} → Result A Refusal → ℕ
refused_in (Ok a) = 0
refused_in (Err why) = refusal_number why

-- the count, of clusters or, A.4, of words read; 0 where the call is refused
abbrev pub count_in : Result ℕ Refusal → ℕ
count_in (Ok n) = n
count_in (Err why) = 0

-- the count of an order's keys; 0 where the call is refused
abbrev pub keys_in : Result Keys Refusal → ℕ
keys_in (Ok keys) = keys.count
keys_in (Err why) = 0

-- how many pages were tested; 0 where the call is refused
abbrev pub tested_in : Result Keys Refusal → ℕ
tested_in (Ok keys) = keys.tested
tested_in (Err why) = 0

-- the answer, and the lent list after the call
pub record Written (A B : Type 0) : Type 0 where
  pub answer : A
  pub list : List B

-- 12: "list too short"; "Past what is written the list is unchanged"
unfoldable pub listed : {A : Type 0} → A → List ℕ → List ℕ → Written (Result A Refusal) ℕ
listed done numbers lent =
    cond (ltb (length lent) (length numbers)) (record { answer = Err NoRoom; list = lent })
    (record { answer = Ok done; list = numbers ++ drop (length numbers) lent })

-- "The count of keys .. is returned"; A.3: "Making an order reports, within the library only, how many pages its walks tested": no line and no C entry
-- shows it
unfoldable pub order_listed : ℕ → List ℕ → List ℕ → Written (Result Keys Refusal) ℕ
order_listed report order lent = listed (record { count = length order; tested = report }) order lent

unfoldable pub steal_list_of : State → List ℕ → Written (Result Keys Refusal) ℕ
steal_list_of s lent = order_listed (tested s) (steal_order s) lent

unfoldable pub fetch_list_of : State → List ℕ → Written (Result Keys Refusal) ℕ
fetch_list_of s lent = order_listed (tested s) (fetch_order s) lent

-- 3; "low and high page by rising page", the count "of clusters (two numbers each)"
unfoldable pub clusters_of : State → ℕ → List ℕ → Written (Result ℕ Refusal) ℕ
clusters_of s file lent =
    cond (no_file s file) (record { answer = Err NoFile; list = lent })
    (listed (length (clusters s file) / 2) (clusters s file) lent)
