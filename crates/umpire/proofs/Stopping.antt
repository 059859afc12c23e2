-- What a fault leaves, whatever the text that is made.
use Rattle.std.proofs.Common.{◌≡◌, ℕ, Bool, false, List, refl, subst, sym}
use Rattle.std.specs.Prelude.{Option}
use Rattle.std.proofs.KnownBytes.{Keeps-refl}
use Rattle.std.specs.Io.KnownBytes.{Appends}
use Rattle.report.specs.Report.{refusal_line}
use Rattle.sheets.specs.declared.fault.FileFault.{FileFault}
use Rattle.tables.specs.declared.roster.Company.{Company}
use Rattle.tables.specs.declared.round.Round.{Round}
use Rattle.umpire.specs.Failure.{AppendsPrefix}
use Rattle.umpire.specs.Run.{IsReadFault, IsWriteFault, Refuses, StopsBy}
use Rattle.umpire.specs.declared.fault.Fault.{Fault}
use Rattle.umpire.specs.declared.fault.Fault.TheVariants.{Read, Write, Memory, File, Certificate}

-- reading stopped early: nothing of the text is written
pub stops_unread : (cut : Type 0) (refused : FileFault → Type 0) (uncertified : Round → Company → Type 0)
    (old : Option (List ℕ)) (read_failed write_failed : Bool) (fault : Fault) → IsReadFault read_failed fault
    → write_failed ≡ false → cut → StopsBy cut refused uncertified old old read_failed write_failed fault
stops_unread cut refused uncertified old read_failed write_failed Read is unfailed none =
    (is, unfailed, Keeps-refl old)
stops_unread cut refused uncertified old read_failed write_failed Memory is unfailed none = (is, unfailed, none)
stops_unread cut refused uncertified old read_failed write_failed Write is unfailed none = absurd is
stops_unread cut refused uncertified old read_failed write_failed (File fault) is unfailed none = absurd is
stops_unread cut refused uncertified old read_failed write_failed (Certificate round company) is unfailed none =
    absurd is

-- writing stopped early: the text is cut
pub stops_cut : (cut : Type 0) (refused : FileFault → Type 0) (uncertified : Round → Company → Type 0)
    (old new : Option (List ℕ)) (failed : Bool) (fault : Fault) → IsWriteFault failed fault → cut
    → StopsBy cut refused uncertified old new false failed fault
stops_cut cut refused uncertified old new failed Read is part = absurd is
stops_cut cut refused uncertified old new failed Write is part = (refl, is, part)
stops_cut cut refused uncertified old new failed Memory is part = (refl, is, part)
stops_cut cut refused uncertified old new failed (File fault) is part = absurd is
stops_cut cut refused uncertified old new failed (Certificate round company) is part = absurd is

-- what is left of a file that was read is what is left of the whole file
pub stops_whole : (cut whole : Type 0) (refused of_whole : FileFault → Type 0)
    (uncertified in_whole : Round → Company → Type 0) → (cut → whole)
    → ((fault : FileFault) → refused fault → of_whole fault)
    → ((round : Round) (company : Company) → uncertified round company → in_whole round company)
    → (old new : Option (List ℕ)) (read_failed write_failed : Bool) (fault : Fault) → read_failed ≡ false
    → StopsBy cut refused uncertified old new false write_failed fault
    → StopsBy whole of_whole in_whole old new read_failed write_failed fault
stops_whole cut whole refused of_whole uncertified in_whole a b c old new rf wf Read unfailed known = absurd cc
stops_whole cut whole refused of_whole uncertified in_whole a b c old new rf wf Write unfailed known =
    (unfailed, known.1, a known.2)
stops_whole cut whole refused of_whole uncertified in_whole a b c old new rf wf Memory unfailed known =
    (unfailed, known.1, a known.2)
stops_whole cut whole refused of_whole uncertified in_whole a b c old new rf wf (File fault) unfailed known =
    (unfailed, known.1, b fault known.2)
stops_whole cut whole refused of_whole uncertified in_whole a b c old new rf wf (Certificate round company) unfailed
    known = (unfailed, known.1, c round company known.2)

-- writing the line of a refused file was stopped
pub refuses_short : (refusal : FileFault) (old new : Option (List ℕ)) (failed : Bool) (fault : Fault)
    → IsWriteFault failed fault → AppendsPrefix old new (refusal_line refusal) → Refuses refusal old new failed fault
refuses_short refusal old new failed Read is prefix = absurd is
refuses_short refusal old new failed Write is prefix = (is, prefix)
refuses_short refusal old new failed Memory is prefix = (is, prefix)
refuses_short refusal old new failed (File fault) is prefix = absurd is
refuses_short refusal old new failed (Certificate round company) is prefix = absurd is

-- a file is refused: that line is written, or the text is cut
pub stops_refused : (cut : Type 0) (refused : FileFault → Type 0) (uncertified : Round → Company → Type 0)
    (old new : Option (List ℕ)) (failed : Bool) (refusal : FileFault) (fault : Fault)
    → (AppendsPrefix old new (refusal_line refusal) → cut) → (Appends old new (refusal_line refusal) → refused refusal)
    → Refuses refusal old new failed fault → StopsBy cut refused uncertified old new false failed fault
stops_refused cut refused uncertified old new failed refusal Read part whole refuses = absurd refuses
stops_refused cut refused uncertified old new failed refusal Write part whole refuses =
    (refl, refuses.0, part refuses.1)
stops_refused cut refused uncertified old new failed refusal Memory part whole refuses =
    (refl, refuses.0, part refuses.1)
stops_refused cut refused uncertified old new failed refusal (File fault) part whole refuses =
    (refl, refuses.0, subst refused (sym refuses.1) (whole refuses.2))
stops_refused cut refused uncertified old new failed refusal (Certificate round company) part whole refuses =
    absurd refuses
