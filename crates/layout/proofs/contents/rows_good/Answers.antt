-- `layout::contents::rows_good` meets its contract. Assumes nothing.
use mathlib.Core.Path.{sym}
use Prim.Native.Nat.{◌<◌}
use native.Mathlib.Omega.{arith}
use lib.Dec.{lit<}
use Rattle.seq.specs.Truth.{fails, holds}
use Rattle.layout.specs.Place.{image_bytes}
use Rattle.layout.specs.ContentsRead.{row_good}
use Rattle.layout.proofs.ContentsLaws.{rows_not, rows_end, image_fits}
use Rattle.layout.proofs.contents.rows_good.Goals as goal

pub returns-then-not-row_is : goal.returns-then-not-row_is
unfolding row_good
returns-then-not-row_is c = sym (rows_not _ _ 0 (lit< tt) (fails c.row_is.ensures c.if-not-row_is.true-raw))

pub row_is-requires-2 : goal.row_is-requires-2
row_is-requires-2 c = omega (arith, c.requires.0)

pub returns-then-not-row_is-2 : goal.returns-then-not-row_is-2
unfolding row_good
returns-then-not-row_is-2 c = sym (rows_not _ _ 1 (lit< tt) (fails c.row_is-2.ensures c.if-not-row_is-2.true-raw))

pub overflow_mul-texts : goal.overflow_mul-texts
overflow_mul-texts c =
    let room : image_bytes c.args.h < 18446744073709551616 = image_fits c.args.h c.requires.1 in
    omega (arith, room)

pub overflow_add-texts : goal.overflow_add-texts
overflow_add-texts c =
    let room : image_bytes c.args.h < 18446744073709551616 = image_fits c.args.h c.requires.1 in
    omega (arith, room)

pub row_is-requires-3 : goal.row_is-requires-3
row_is-requires-3 c = omega (arith, c.requires.0)

pub returns-then-not-row_is-3 : goal.returns-then-not-row_is-3
unfolding row_good
returns-then-not-row_is-3 c = sym (rows_not _ _ 2 (lit< tt) (fails c.row_is-3.ensures c.if-not-row_is-3.true-raw))

pub overflow_add-handles : goal.overflow_add-handles
overflow_add-handles c =
    let room : image_bytes c.args.h < 18446744073709551616 = image_fits c.args.h c.requires.1 in
    omega (arith, room)

pub row_is-requires-4 : goal.row_is-requires-4
row_is-requires-4 c =
    let pre = c.requires in
    omega (arith, pre.0)

pub returns-then-not-row_is-4 : goal.returns-then-not-row_is-4
unfolding row_good
returns-then-not-row_is-4 c = sym (rows_not _ _ 3 (lit< tt) (fails c.row_is-4.ensures c.if-not-row_is-4.true-raw))

pub overflow_mul-journal : goal.overflow_mul-journal
overflow_mul-journal c =
    let room : image_bytes c.args.h < 18446744073709551616 = image_fits c.args.h c.requires.1 in
    omega (arith, room)

pub overflow_add-journal : goal.overflow_add-journal
overflow_add-journal c =
    let room : image_bytes c.args.h < 18446744073709551616 = image_fits c.args.h c.requires.1 in
    omega (arith, room)

pub row_is-requires-5 : goal.row_is-requires-5
row_is-requires-5 c =
    let pre = c.requires in
    omega (arith, pre.0)

pub returns-then-not-row_is-5 : goal.returns-then-not-row_is-5
unfolding row_good
returns-then-not-row_is-5 c = sym (rows_not _ _ 4 (lit< tt) (fails c.row_is-5.ensures c.if-not-row_is-5.true-raw))

pub overflow_add-result : goal.overflow_add-result
overflow_add-result c =
    let room : image_bytes c.args.h < 18446744073709551616 = image_fits c.args.h c.requires.1 in
    omega (arith, room)

pub returns : goal.returns
unfolding row_good
returns c =
    let row-is = c.row_is in
    let row-is2 = c.row_is-2 in
    let row-is3 = c.row_is-3 in
    let row-is4 = c.row_is-4 in
    sym (rows_end _ _ (holds row-is.ensures c.if-not-row_is.false-raw) (holds row-is2.ensures c.if-not-row_is-2.false-raw) (holds row-is3.ensures c.if-not-row_is-3.false-raw)
    (holds row-is4.ensures c.if-not-row_is-4.false-raw) (holds c.row_is-5.ensures c.if-not-row_is-5.false-raw))
