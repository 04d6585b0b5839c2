-- The file has no such page, it goes sooner than the best, or the best stays.
use Rattle.std.proofs.Common.{ℕ, ◌≤◌, ap, le_trans, slice_index}
use Rattle.uses.specs.declared.Sight.{Sight}
use Rattle.rears.proofs.Rearing.{rear-clear, rear-keep, rear-take}
use Rattle.rears.proofs.further_behind.Goals as goal

-- the page found is one of at most 1,024
few : (sight : Sight) (file : ℕ) {page : ℕ} → page ≤ slice_index sight.sizes.now file → page ≤ 1024
few sight file low = le_trans low (sight.sizes_fit file)

pub returns-then-page-eq0 : goal.returns-then-page-eq0
returns-then-page-eq0 c = λ t v fetching h files o p.
    let a = c.args in
    let b = c.behind_all-page.ensures in
    let r = b.back v.readers h.seated in
    rear-clear _ h.valid files a.file a.best p _ _ c.requires (few a.sight.now a.file b.low) (ap (λ sizes. slice_index sizes a.file) h.sizes_are) r.0 r.1
    c.if-page-eq0.true

pub returns-then-best-value : goal.returns-then-best-value
returns-then-best-value c = λ t v fetching h files o p.
    let a = c.args in
    let b = c.behind_all-page.ensures in
    let r = b.back v.readers h.seated in
    rear-take _ h.valid files a.file a.best p _ _ c.requires (few a.sight.now a.file b.low) (ap (λ sizes. slice_index sizes a.file) h.sizes_are) r.0 r.1 o
    c.if-page-eq0.false c.if-best-value.true

pub returns : goal.returns
returns c = λ t v fetching h files o p.
    let a = c.args in
    let b = c.behind_all-page.ensures in
    let r = b.back v.readers h.seated in
    rear-keep _ h.valid files a.file a.best p _ _ c.requires (few a.sight.now a.file b.low) (ap (λ sizes. slice_index sizes a.file) h.sizes_are) r.0 r.1
    c.if-best-value.false
