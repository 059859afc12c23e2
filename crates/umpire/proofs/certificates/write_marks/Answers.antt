use Rattle.std.proofs.Common.{[], ap, arith, length}
use Rattle.std.proofs.KnownBytes.{Appends-nil}
use Rattle.order_grammar.proofs.PrefixLemmas.{at_error}
use Rattle.umpire.specs.Written.{marks_lines_within}
use Rattle.umpire.proofs.CertsLemmas.{all_written}
use Rattle.umpire.proofs.Parts.{leaves_less, prefix_of_part, prefix_of_text}
use Rattle.umpire.proofs.WrittenLemmas.{fewer_left, left_behind, none_left, not_true}
use Rattle.umpire.proofs.certificates.write_marks.Goals as goal

pub loop-marks-init : goal.loop-marks-init
loop-marks-init g c =
    let bits = c.args.bits.now in
    record {
      count = length bits;
      within = rw c.reader-marks.ensures (omega arith);
      left = record {
        done = [];
        whole = ap (marks_lines_within (length bits)) c.reader-marks.ensures;
        appended =
            Appends-nil _;
      };
      unfailed = c.requires;
    }

pub loop-marks-smaller : goal.loop-marks-smaller
loop-marks-smaller g c =
    rw c.in_ok-print_marks.ensures.left
    (fewer_left c.loop-marks.marks (λ e. not_true c.is_empty.result c.loop-marks-test.true (c.is_empty.ensures.1 e)))

pub loop-marks-preserved : goal.loop-marks-preserved
loop-marks-preserved g c =
    let marks = c.loop-marks.marks in
    let at = c.loop-marks.invariant in
    let behind = left_behind at.count marks (λ e. not_true c.is_empty.result c.loop-marks-test.true
    (c.is_empty.ensures.1 e)) at.within in
    let bytes = rw c.as_slice.ensures.value at c.in_ok-write_text.ensures.ok in
    let line = rw c.in_ok-print_marks.ensures.printed at bytes in
    let written = rw c.clear.ensures.items at line in
    record {
      count = behind.next;
      within = rw c.in_ok-print_marks.ensures.left behind.within;
      left = rw c.in_ok-print_marks.ensures.left (leaves_less _ _ _ _ _ _ _ at.left behind.lines written);
      unfailed = c.in_ok-write_text.ensures.unfailed;
    }

pub returns-clause-ok : goal.returns-clause-ok
returns-clause-ok g c =
    let at = c.loop-marks.invariant in
    all_written _ _ _ _ at.left (none_left at.count c.loop-marks.marks (c.is_empty.ensures.0 c.loop-marks-test.false))

pub returns-in_err-print_marks-clause-prefix : goal.returns-in_err-print_marks-clause-prefix
returns-in_err-print_marks-clause-prefix g c = at_error c.from_residual.result (prefix_of_text _ _ _ _
    c.loop-marks.invariant.left)

pub returns-in_err-write_text-clause-prefix : goal.returns-in_err-write_text-clause-prefix
returns-in_err-write_text-clause-prefix g c =
    let marks = c.loop-marks.marks in
    let at = c.loop-marks.invariant in
    let behind = left_behind at.count marks (λ e. not_true c.is_empty.result c.loop-marks-test.true
    (c.is_empty.ensures.1 e)) at.within in
    let bytes = rw c.as_slice.ensures.value at c.in_err-write_text.ensures.prefix in
    let line = rw c.in_ok-print_marks.ensures.printed at bytes in
    let prefix = rw c.clear.ensures.items at line in
    at_error c.from_residual-in_err-write_text.result (prefix_of_part _ _ _ _ _ _ _ at.left behind.lines prefix)
