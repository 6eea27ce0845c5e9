-- An image whose journal record is that of a move, of whatever kind: recovery reads it back; and what recovery answers on a whole image. Assumes nothing.
use Rattle.std.specs.Prelude.{◌≡◌, refl, ◌≢◌, false, List, [], ℕ, ◌≤◌, ◌<◌}
use Rattle.std.proofs.Common.{sym, ◌∙◌, arith, lit<}
use Rattle.std.proofs.Math.Path.{ap}
use Rattle.std.proofs.Math.Bool.{true}
use Rattle.std.proofs.Math.Option.{some}
use Rattle.std.proofs.Math.Decide.{ℕ_discrete}
use Rattle.seq.specs.Bytes.{zeros}
use Rattle.seq.specs.Number.{span}
use Rattle.seq.proofs.SearchLaws.{all_not}
use Rattle.layout.specs.declared.Shape.{Shape}
use Rattle.layout.specs.Limits.{absent}
use Rattle.layout.specs.Facts.{Laid}
use Rattle.layout.specs.View.{journal_at}
use Rattle.encode.specs.declared.journal.Journal.{Journal}
use Rattle.encode.specs.Facts.{InRange}
use Rattle.encode.specs.Journal.{journal_of, journal_formed, journal_bytes, journal_head}
use Rattle.encode.specs.JournalLaws.{journal_formed_lem, journal_of_bytes}
use Rattle.consistency.specs.Sound.{journal_clear}
use Rattle.consistency.specs.Consistent.{consistent}
use Rattle.plan.specs.Write.{Write, journal_key, store_all}
use Rattle.recounts.specs.declared.Move.{Move}
use Rattle.results.specs.Start.{journal_for}
use Rattle.results.specs.InImage.{InImage}
use Rattle.drafts.specs.Draft.{kind_draft, draft}
use Rattle.recover.specs.Recover.{if_consistent, pending_rows, recover}
use Rattle.image_store.specs.Image.{record_of}
use Rattle.image_store.proofs.ImageLaws.{record_is}

-- ---- the record's numbers fit their fields

small : (i n : ℕ) → (i ≢ absent → i < n) → n ≤ 65536 → i < 65536
small i n f l = go (ℕ_discrete i absent)
  where
    go : Dec (i ≡ absent) → i < 65536
    go (yes e) = omega arith
    go (no d) = omega (arith, f d)

pub in_range_lem : (h : Shape) (s : List ℕ) → Laid h s → (kind : ℕ) → kind < 256 → (m : Move) → InImage h m → m.now < span 8 → InRange (journal_for kind m)
in_range_lem h s laid kind l m range time = record {
  kind = l;
  old = omega (arith, range.old, laid.entries_most);
  new = omega (arith, range.new, laid.entries_most);
  moved = omega (arith, range.moved, laid.inodes_most);
  replaced = small m.replaced h.inodes range.replaced (omega (arith, laid.inodes_most));
  parent = omega (arith, range.from, laid.inodes_most);
  text = small m.text h.texts range.text (omega (arith, laid.texts_most));
  time = time;
}

-- ---- the record set

module _ (h : Shape) (x : List ℕ) (kind : ℕ) (m : Move) (range : InRange (journal_for kind m))
    (set : record_of h x journal_key ≡ journal_bytes (journal_for kind m)) where
  journal_is : journal_at h x ≡ journal_bytes (journal_for kind m)
  journal_is = sym (record_is h x journal_key (record { in_image = lit< tt; in_section = lit< tt })) ∙ set

  not_clear : journal_clear h x ≡ false
  unfolding journal_clear zeros journal_bytes journal_head
  not_clear = rw journal_is (all_not _ 32 0 (omega arith) refl)

  read_journal : journal_of (journal_at h x) ≡ journal_for kind m
  read_journal = ap journal_of journal_is ∙ journal_of_bytes (journal_for kind m) range

  drafted : draft h x ≡ kind_draft h x kind (journal_for kind m)
  unfolding draft
  drafted =
      let formed : journal_formed (journal_at h x) ≡ true = ap journal_formed journal_is ∙ journal_formed_lem (journal_for kind m) in
      rw formed (ap (λ (j : Journal). kind_draft h x j.kind j) read_journal)

  -- recovery does what the record says
  pub by_record : recover h x ≡ if_consistent h x (kind_draft h x kind (journal_for kind m))
  unfolding recover pending_rows
  by_record = rw not_clear (ap (if_consistent h x) drafted)

-- ---- what is answered

-- rows whose outcome is consistent
pub answered : (h : Shape) (x : List ℕ) (ws : List Write) {y : List ℕ} → store_all h x ws ≡ y → consistent y ≡ true → if_consistent h x (some ws) ≡ some ws
answered h x ws e good =
    let k : consistent (store_all h x ws) ≡ true = ap consistent e ∙ good in
    rw k

-- nothing to do
pub nothing_pending : (h : Shape) (x : List ℕ) → journal_clear h x ≡ true → consistent x ≡ true → recover h x ≡ some []
unfolding recover
nothing_pending h x clear good = rw (clear, good)
