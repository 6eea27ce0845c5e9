-- The finished image of a rename, in bytes: its bodies are consistent if its records are well formed. Assumes nothing.
use Rattle.std.specs.Prelude.{List, ℕ}
use Rattle.layout.specs.declared.Shape.{Shape}
use Rattle.layout.specs.View.{view_of}
use Rattle.consistency.specs.RecordFacts.{Bodies}
use Rattle.edits.specs.Moved.{Allowed, Moved}
use Rattle.edits.proofs.Finished.{moved_consistent}
use Rattle.edits.specs.Formed.{Formed}
use Rattle.edits.proofs.Bodies.{bodies_consistent, consistent_bodies}

pub rename_consistent : {h : Shape} {s t : List ℕ} {old new moved from into : ℕ} {called : List ℕ}
    → Bodies h s
    → Allowed (view_of h s) old new moved from into called
    → Moved (view_of h s) (view_of h t) old new moved from into called
    → Formed h t
    → Bodies h t
rename_consistent f ok m form = consistent_bodies form (moved_consistent (bodies_consistent f) ok m)
