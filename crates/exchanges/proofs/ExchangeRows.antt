-- The rows of an exchange in a plan: all of them in order, how many they are, and what an operation owes for each (rule 84). Assumes nothing.
use Rattle.std.specs.Prelude.{◌≡◌, refl, ◌≢◌, not, List, [], ◌∷◌, ℕ, ◌+◌, ◌≤◌, ◌<◌, eqb, length}
use Rattle.std.proofs.Common.{ap, ◌∙◌, arith, lit<, lit≤, eq-eqb, ne_eqb}
use Rattle.std.proofs.Math.ListN.{length-append}
use Rattle.seq.specs.Bytes.{put}
use Rattle.seq.proofs.BytesLaws.{put_length}
use Rattle.layout.specs.declared.Shape.{Shape}
use Rattle.layout.specs.Facts.{Laid}
use Rattle.layout.proofs.RecordLaws.{record_length}
use Rattle.layout.specs.View.{inode_at}
use Rattle.encode.specs.Journal.{exchange_kind}
use Rattle.plan.specs.declared.rows.Rows.{Rows}
use Rattle.plan.specs.Form.{plan_rows, plan_bytes, row_stored, entry_group, result_group}
use Rattle.plan.specs.FitFacts.{Writes}
use Rattle.plan.specs.Write.{inode_key, row_from}
use Rattle.plan.specs.Filled.{AllWrites, Filled}
use Rattle.plan.specs.Added.{no_rows, Added}
use Rattle.plan.proofs.WriteLaws.{filled_one, filled_join, writes_join}
use Rattle.plan.proofs.AddedLaws.{added_join, rows_stored}
use Rattle.recounts.specs.declared.Move.{Move}
use Rattle.results.specs.Results.{moved_after, moved_row, clear_row}
use Rattle.results.specs.Start.{start_row}
use Rattle.results.proofs.Again.{moved_length, holder_length}
use Rattle.results.proofs.Owed.{inode_writes, when_writes}
use Rattle.results.proofs.ResultRows.{when_one, when_none, when_le}
use Rattle.exchanges.specs.Exchange.{back, slot_row, parent_after, parent_row, slot_rows, parent_rows, inode_rows, exchange_results, exchange_rows, exchange_planned}
use Rattle.exchanges.specs.InImage.{BothInImage}

module _ (h : Shape) (s : List ℕ) (m : Move) where
  -- ---- how many there are

  pub parents_le : length (parent_rows h s m) ≤ 2
  parents_le = omega (arith, when_le (not (eqb m.into m.from)) (parent_row h s m m.into))

  pub exchange_le : length (exchange_results h s m) ≤ 6
  unfolding exchange_results
  exchange_le = omega (arith, parents_le, length-append (parent_rows h s m) (moved_row h s (back m) ∷ []))

  -- ---- put into a plan

  pub parents_one : {p q : Rows} → m.into ≡ m.from → Added h p (parent_row h s m m.from ∷ []) q → Added h p (parent_rows h s m) q
  parents_one e a = added_join h a (when_none h (parent_row h s m m.into) (not (eqb m.into m.from)) (rw (eq-eqb _ _ e)))

  pub parents_two : {p q r : Rows} → m.into ≢ m.from → Added h p (parent_row h s m m.from ∷ []) q → Added h q (parent_row h s m m.into ∷ []) r
      → Added h p (parent_rows h s m) r
  parents_two n a b = added_join h a (when_one h (parent_row h s m m.into) (not (eqb m.into m.from)) (rw (ne_eqb _ _ n)) b)

  -- the other side as the code has it
  module _ (o : Move) (is : o ≡ back m) where
    pub slots_filled : {p a b : List ℕ} {i : ℕ} → a ≡ row_stored p i (row_from h (slot_row h s o)) → b ≡ row_stored a (i + 1) (row_from h (slot_row h s m))
        → Filled h p i (slot_rows h s m) b (i + 2)
    slots_filled {p} {a} {b} {i} first second =
        let two : i + 1 + 1 ≡ i + 2 = omega arith in
        rw (← two) (filled_join h (filled_one h (slot_row h s (back m)) (first ∙ ap (λ (x : Move). row_stored p i (row_from h (slot_row h s x))) is))
        (filled_one h (slot_row h s m) second))

    pub inodes_filled : {p a b c : List ℕ} {i n : ℕ} → a ≡ row_stored p i (row_from h (moved_row h s m)) → Filled h a (i + 1) (parent_rows h s m) b n
        → c ≡ row_stored b n (row_from h (moved_row h s o)) → Filled h p i (inode_rows h s m) c (n + 1)
    inodes_filled {p} {a} {b} {c} {i} {n} first rest last =
        filled_join h (filled_one h (moved_row h s m) first)
        (filled_join h rest (filled_one h (moved_row h s (back m)) (last ∙ ap (λ (x : Move). row_stored b n (row_from h (moved_row h s x))) is)))

  pub exchange_added : {p q r : Rows} → Added h p (slot_rows h s m) q → Added h q (inode_rows h s m) r → Added h p (exchange_results h s m) r
  unfolding exchange_results
  exchange_added slots inodes = added_join h slots inodes

  -- there is a place behind them
  pub exchange_below : {p q : List ℕ} {n : ℕ} → Filled h p 1 (exchange_results h s m) q n → n < plan_rows
  exchange_below f = omega (arith, f.next, exchange_le)

  -- all rows, copied over a plan's buffer
  pub exchange_stored : (buffer : List ℕ) {a b q : Rows} → plan_bytes ≤ length buffer → Added h no_rows (start_row exchange_kind m ∷ []) a
      → Added h a (exchange_results h s m) b → Added h b (clear_row h ∷ []) q
      → (put buffer 0 q.bytes ≡ exchange_planned h s m buffer) × (q.count ≡ length (exchange_rows h s m))
  unfolding exchange_planned exchange_rows
  exchange_stored buffer long first rest last =
      rows_stored h buffer long (omega (arith, exchange_le, length-append (exchange_results h s m) (clear_row h ∷ [])))
      (added_join h first (added_join h rest last))

-- ---- what an operation owes

module _ (h : Shape) (s : List ℕ) (laid : Laid h s) where
  long : (i : ℕ) → i < h.inodes → length (inode_at h s i) ≡ 32
  long i l = record_length h s 0 i laid.long (lit< tt) l

  -- for one side
  slot_writes : (m : Move) → m.new < h.entries → Writes h entry_group (slot_row h s m).key (slot_row h s m).body
  slot_writes m l = record {
    first = lit≤ tt;
    last = lit≤ tt;
    valid = record { in_image = lit< tt; in_section = l };
    allowed = refl;
    whole = put_length _ 2 _ ∙ record_length h s 1 m.new laid.long (lit< tt) l;
  }

  inode_moves : (m : Move) → m.moved < h.inodes → Writes h result_group (inode_key m.moved) (moved_after h s m)
  inode_moves m l = inode_writes h m.moved _ l (moved_length m.into m.now _ ∙ long m.moved l)

  parent_writes : (m : Move) (i : ℕ) → i < h.inodes → Writes h result_group (inode_key i) (parent_after h s m i)
  parent_writes m i l = inode_writes h i _ l (holder_length _ m.now _ ∙ long i l)

  pub exchange_writes : (m : Move) → BothInImage h m → AllWrites h (exchange_results h s m)
  unfolding exchange_results
  exchange_writes m range =
      let into = when_writes h (not (eqb m.into m.from)) (parent_row h s m m.into) (λ _. parent_writes m m.into range.into) in (
        slot_writes (back m) range.slots.old,
        (
          slot_writes m range.slots.new,
          (
            inode_moves m range.moved,
            writes_join h (parent_rows h s m) (moved_row h s (back m) ∷ []) (parent_writes m m.from range.from, into) (inode_moves (back m) range.replaced, tt),
          ),
        ),
      )
