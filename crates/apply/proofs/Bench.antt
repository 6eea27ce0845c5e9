-- The job on the smallest image, by computation: each refusal in its order, and a row that is applied (rules 94 to 101). Assumes nothing.
use Rattle.std.specs.Prelude.{◌≡◌, refl, Bool, true, ◌&&◌, List, [], ◌∷◌, ◌++◌, ℕ, eqb, replicate}
use Rattle.seq.specs.Search.{any, all}
use Rattle.seq.specs.Bytes.{part, put}
use Rattle.seq.specs.Number.{number_at, bytes_of}
use Rattle.layout.specs.Contents.{name_is, shape_of, layout_good}
use Rattle.plan.specs.Form.{row_of, row_at, header_of, row_stored}
use Rattle.plan.specs.Fit.{covers_section, covers, is_fitting_row, applicable}
use Rattle.apply.specs.Apply.{apply_number, applied_image}

-- one inode at 40, the journal record at 72, and the end at 104
abbrev contents : List ℕ
contents =
    78 ∷ 79 ∷ 68 ∷ 69 ∷ 40 ∷ 0 ∷ 1 ∷ 0 ∷ 76 ∷ 73 ∷ 78 ∷ 75 ∷ 72 ∷ 0 ∷ 0 ∷ 0 ∷ 84 ∷ 69 ∷ 88 ∷ 84 ∷ 72 ∷ 0 ∷ 0 ∷ 0
    ∷ 72 ∷ 65 ∷ 78 ∷ 68 ∷ 72 ∷ 0 ∷ 0 ∷ 0 ∷ 78 ∷ 79 ∷ 84 ∷ 69 ∷ 72 ∷ 0 ∷ 1 ∷ 0 ∷ []

abbrev image : List ℕ
image = contents ++ replicate 64 0

-- a plan with one row, of this ordering group, in place 2
abbrev plan_of : ℕ → List ℕ
plan_of group = row_stored (replicate 648 0) 2 (row_of group 72 (replicate 32 7))

abbrev numbers : Bool
numbers =
    eqb (apply_number image (plan_of 1) 2) 0 && eqb (apply_number image (plan_of 4) 2) 0 && eqb (apply_number image (plan_of 5) 2) 207
    && eqb (apply_number image (plan_of 1) 0) 207 && eqb (apply_number image (plan_of 1) 9) 207 && eqb (apply_number image (plan_of 1) 2305843009213693952) 207
    && eqb (apply_number contents (plan_of 1) 2) 201 && eqb (apply_number contents (plan_of 5) 9) 201 && eqb (apply_number contents contents 9) 205

pub bench_numbers : numbers ≡ true
unfolding apply_number applicable is_fitting_row covers covers_section any layout_good name_is shape_of all number_at row_at row_stored header_of bytes_of put part
bench_numbers = refl

pub bench_image : applied_image image (plan_of 1) 2 ≡ contents ++ replicate 32 0 ++ replicate 32 7
unfolding applied_image apply_number applicable is_fitting_row covers covers_section any layout_good name_is shape_of all number_at row_at row_stored header_of bytes_of put part
bench_image = refl
