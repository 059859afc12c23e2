-- A file that is not refused has no refusal.
use Rattle.std.proofs.Common.{◌≡◌, List, ℕ, None, Ok, Err, Result, refl}
use Rattle.std.specs.Prelude.{IsOk}
use Rattle.desk_check.specs.Refused.{refusal_in}
use Rattle.sheets.specs.File.{Content, IsAccepted, content_of}
use Rattle.sheets.specs.declared.fault.FileFault.{FileFault}

unrefused : (content : Result Content FileFault) → IsOk content → refusal_in content ≡ None
unrefused (Ok content) accepted = refl
unrefused (Err fault) accepted = cc

pub accepted_unrefused : (file : List ℕ) → IsAccepted file → refusal_in (content_of file) ≡ None
accepted_unrefused file accepted = unrefused (content_of file) accepted
