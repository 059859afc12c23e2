-- the sheets of the seats so far
use Rattle.std.proofs.Common.{◌≡◌, ◌++◌}
use Rattle.std.specs.List.{flat_map, range_with_len}
use Rattle.foresight.specs.TrialFile.{sheet_if, with_line_end}
use Rattle.foresight.proofs.trial_file.TrialFile.put.Given as goal

abbrev pub invariant-loop-seat : goal.invariant-loop-seat
invariant-loop-seat l =
    (l.self.begun ≡ l.fn.self.begun) ×
    (l.self.bytes.items
    ≡ with_line_end l.sheets ++ flat_map (sheet_if l.sheets l.round l.whose) (range_with_len 0 l.seat))
