-- What a writer keeps behind a part.
use Rattle.std.specs.Prelude.{◌≡◌, ℕ, List, ◌++◌, Option, None}
use Rattle.std.specs.declared.alloc.AllocError.{AllocError}
use Rattle.std.proofs.Common.{◌∙◌, ap, sym}
use Rattle.markup.specs.Reading.{IsWellFormed, between, read_at, reading}
use Rattle.markup.specs.Written.{open_names, read_by}
use Rattle.markup.specs.declared.tag.Tag.{Tag}
use Rattle.markup.specs.declared.writer.WriterPlace.{WriterPlace}
use Rattle.markup.specs.declared.writer.WriterPlace.TheVariants.{Between}
use Rattle.markup.proofs.PartLemmas.{whole_kept}

-- the bytes of the part are added if no allocation has failed
pub part_kept : (text part new : List ℕ) (tags : List Tag) (spot : WriterPlace) (was now : Option AllocError)
    → (now ≡ None → was ≡ None) → (was ≡ None → reading text ≡ read_by (open_names tags) spot) → spot ≡ Between
    → (now ≡ None → new ≡ text ++ part) → IsWellFormed part → now ≡ None
    → reading new ≡ read_by (open_names tags) spot
part_kept text part new tags spot was now before read at added whole none =
    let here : read_by (open_names tags) spot ≡ read_at (open_names tags) between = ap (read_by (open_names tags)) at in
    ap reading (added none)
    ∙ (whole_kept text part (open_names tags) (read (before none) ∙ here) whole ∙ sym here)
