-- `results::records::replaced` meets its contract. Assumes nothing.
use mathlib.Core.Path.{ap, ap₂, sym, ◌∙◌}
use mathlib.Core.List.{List}
use native.Mathlib.Omega.{arith}
use Prim.Native.Nat.{ℕ}
use Rattle.encode.specs.Inode.{with_links, with_changed}
use Rattle.results.proofs.RecordLaws.{replaced_freed, replaced_kept}
use Rattle.results.proofs.records.replaced.Goals as goal

pub returns-then-entries_after-eq0 : goal.returns-then-entries_after-eq0
returns-then-entries_after-eq0 c = sym (replaced_freed _ _ _ _ _ (sym c.entries_after.ensures.0 ∙ c.if-entries_after-eq0.true))

pub returns : goal.returns
returns c =
    let m = c.args.m in
    let counted = c.links_after-links.ensures.0 in
    c.set_changed.ensures
    ∙ ap (λ x. with_changed m.now x) (c.set_links.ensures ∙ ap₂ (λ (n : ℕ) (x : List ℕ). with_links n x) counted c.inode-r.ensures)
    ∙ sym (replaced_kept _ _ _ m.now _ (λ e. grind (arith, c.entries_after.ensures.0, e)))
