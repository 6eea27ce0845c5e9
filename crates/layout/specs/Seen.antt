-- An image as a caller holds it, seen as what it says, and how one is read. Assumes nothing.
use Rattle.std.specs.Prelude.{◌≡◌, List, ℕ, Option, Some, None}
use Rattle.layout.specs.declared.image.Image.{Image}
use Rattle.layout.specs.ContentsRead.{contents_of}
use Rattle.layout.specs.View.{View, view_of}

abbrev pub seen : Image → View
seen image = view_of image.shape image.bytes.now

-- what reading bytes as an image has found: these bytes, with the shape that their table of contents tells
abbrev pub HasRead : List ℕ → Option Image → Type 0
HasRead s None = contents_of s ≡ None
HasRead s (Some image) = (contents_of s ≡ Some image.shape) × (image.bytes.now ≡ s)
