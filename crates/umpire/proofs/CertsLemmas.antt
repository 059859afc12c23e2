-- Certificates that are written, group by group.
use Rattle.std.proofs.Common.{◌≡◌, ℕ, ◌+◌, ◌<◌, zero, suc, List, [], ◌∷◌, ◌++◌, Result, Ok, Err, add-one, append_assoc, drop}
use Rattle.std.proofs.Common.{drop-cons, get_or, inl, inr, length, refl, sym, ap, subst, ◌∙◌}
use Rattle.std.specs.Prelude.{ℤ, Option, Some, Bool, false, IfErr, IfSome, IsOk, OnErr}
use Rattle.std.specs.Io.KnownBytes.{Appends}
use Rattle.std.specs.List.{flat_map}
use Rattle.std.proofs.KnownBytes.{Appends-trans, Keeps-refl}
use Rattle.std.proofs.lemmas.List.{append-nil}
use Rattle.std.proofs.lemmas.List.Concat.{flat_map-append}
use Rattle.best_run.specs.Keeping.{KeepsBest}
use Rattle.certificate.specs.declared.group.Group.{Group}
use Rattle.legal_runs.specs.declared.runner.RunnerFault.{RunnerFault}
use Rattle.operating.specs.Calls.{AreMade, Call}
use Rattle.order_grammar.specs.declared.order.Order.TheVariants.{Certs}
use Rattle.operating.specs.Calls.{AreAnswered}
use Rattle.report.specs.Report.{refusal_line}
use Rattle.rounds.specs.Steps.{started}
use Rattle.rounds.specs.StepsCall.{StepsCall}
use Rattle.sheets.specs.File.{IsAccepted, content_of}
use Rattle.sheets.specs.declared.fault.FileFault.{FileFault}
use Rattle.umpire.specs.Certified.{AreCertified, CertifyGame}
use Rattle.umpire.specs.Certs.{AreCertificatesCut, IsCertified, IsCutInGroups, StopsCerts}
use Rattle.umpire.specs.Failure.{AppendsPrefix}
use Rattle.umpire.proofs.Stopping.{stops_cut, stops_refused, stops_unread, stops_whole}
use Rattle.umpire.specs.Run.{IsReadFault, IsRefused, IsWriteFault, NeverUncertified, Refuses, as_read}
use Rattle.umpire.specs.Written.{certificates_text, group_text, order_line}
use Rattle.umpire.specs.declared.fault.Fault.{Fault}
use Rattle.umpire.proofs.Files.{Says, refusal_written, refused, says}
use Rattle.umpire.proofs.Parts.{LeavesRest, prefix_of_first_part, prefix_of_second_part}

-- a text with nothing left was written whole
pub all_written : (old new : Option (List ℕ)) (text rest : List ℕ) → LeavesRest old new text rest → rest ≡ []
    → Appends old new text
all_written old new text rest left none =
    let whole : left.done ≡ text = sym (append-nil left.done) ∙ ap (λ l. left.done ++ l) (sym none) ∙ left.whole in
    subst (Appends old new) whole left.appended

-- groups certify calls, and others further calls
pub certified_more : (calls others : List Call) (groups more : List Group) → AreCertified calls groups
    → AreCertified others more → AreCertified (calls ++ others) (groups ++ more)
certified_more [] others [] more these those = those
certified_more [] others (group ∷ groups) more these those = absurd these
certified_more (call ∷ calls) others [] more these those = absurd these
certified_more (call ∷ calls) others (group ∷ groups) more these those =
    (these.0, certified_more calls others groups more these.1 those)

-- groups that are kept of some calls, and certify them
pub record KeptOf (before after : List Group) (calls : List Call) : Type 0 where
  pub groups : List Group
  pub kept : after ≡ before ++ groups
  pub certified : AreCertified calls groups

-- one more call before the others, which succeeded
kept_first : (call : Call) (calls : List Call) (answer : Result ℤ RunnerFault) (before between after : List Group)
    → call.answer ≡ answer → IsOk answer →
    KeepsBest before call.position call.round call.company call.trains answer between → KeptOf between after calls
    → KeptOf before after (call ∷ calls)
kept_first call calls (Ok money) before between after is answered one rest =
    record {
      groups = one.group ∷ rest.groups;
      kept = rest.kept ∙ ap (λ l. l ++ rest.groups) one.kept ∙ append_assoc before (one.group ∷ []) rest.groups;
      certified = (
        record {
          of_round = one.of_round;
          of_company = one.of_company;
          accepted = one.accepted;
          filled = one.filled;
          answered = is ∙ ap Ok one.answered;
          small = one.small;
        },
        rest.certified,
      );
    }
kept_first call calls (Err fault) before between after is answered one rest = absurd (cc)

-- what a runner that keeps the best runs has kept of calls that succeeded
pub kept_of : (calls : List Call) (before after : List Group) → AreAnswered calls
    → AreMade KeepsBest before calls after → KeptOf before after calls
kept_of [] before after answered made = record { groups = []; kept = made ∙ sym (append-nil before); certified = tt }
kept_of (call ∷ calls) before after answered made =
    kept_first call calls call.answer before made.0 after refl answered.0 made.1
    (kept_of calls made.0 after answered.1 made.2)

-- where its marks are cut short, a group is
pub marks_prefix : {A E : Type 0} (result : Result A E) (old mid new : Option (List ℕ)) (claim marks : List ℕ)
    → Appends old mid claim → OnErr result (AppendsPrefix mid new marks)
    → OnErr result (AppendsPrefix old new (claim ++ marks))
marks_prefix (Ok done) old mid new claim marks written prefix = tt
marks_prefix (Err error) old mid new claim marks written prefix =
    prefix_of_second_part old mid new claim marks written prefix

-- the text of groups, and that of more
text_more : (groups more : List Group) → certificates_text groups ++ flat_map group_text more
    ≡ certificates_text (groups ++ more)
text_more groups more =
    append_assoc (order_line Certs) (flat_map group_text groups) (flat_map group_text more)
    ∙ ap (λ l. order_line Certs ++ l) (sym (flat_map-append group_text groups more))

-- the text of the groups so far is written, and then that of more
pub text_grows : (old mid new : Option (List ℕ)) (groups more kept : List Group) → kept ≡ more
    → Appends old mid (certificates_text groups) →
    Appends mid new (flat_map group_text kept) → Appends old new (certificates_text (groups ++ more))
text_grows old mid new groups more kept is so_far written =
    let behind : Appends mid new (flat_map group_text more) =
    subst (λ (l : List Group). Appends mid new (flat_map group_text l)) is written in
    let all = Appends-trans old mid new (certificates_text groups) (flat_map group_text more) so_far behind in
    subst (Appends old new) (text_more groups more) all

-- a prefix of the line with which they begin is one of any certificates
pub prefix_of_head : (old new : Option (List ℕ)) (groups : List Group) → AppendsPrefix old new (order_line Certs)
    → AppendsPrefix old new (certificates_text groups)
prefix_of_head old new groups prefix = prefix_of_first_part old new (order_line Certs) (flat_map group_text groups) prefix

-- so are the texts of some groups, and a prefix of that of more
pub prefix_grows : (old mid new : Option (List ℕ)) (groups more kept : List Group) → kept ≡ more
    → Appends old mid (certificates_text groups) → AppendsPrefix mid new (flat_map group_text kept)
    → AppendsPrefix old new (certificates_text (groups ++ more))
prefix_grows old mid new groups more kept is so_far prefix =
    let behind : AppendsPrefix mid new (flat_map group_text more) =
    subst (λ (l : List Group). AppendsPrefix mid new (flat_map group_text l)) is prefix in
    let all = prefix_of_second_part old mid new (certificates_text groups) (flat_map group_text more) so_far behind in
    subst (AppendsPrefix old new) (text_more groups more) all

-- certificates that were written of a file that was read are those of the whole file
pub certified_of : (given old new : Option (List ℕ)) (file : List ℕ) → IfSome given (λ bytes. file ≡ as_read bytes)
    → IsCertified (Some file) old new → IsCertified given old new
certified_of given old new file read known =
    let says_all : Says given file = says given file read in
    let accepted : IsAccepted file = subst IsAccepted known.whole known.accepted in
    let same : known.file ≡ says_all.whole = known.whole ∙ sym (says_all.accepted accepted) in
    record {
      file = says_all.whole;
      groups = known.groups;
      whole = says_all.is_whole;
      accepted = subst IsAccepted same known.accepted;
      certify = subst (λ (f : List ℕ). CertifyGame f known.groups) same known.certify;
      written = known.written;
    }

-- so are those that were cut short
cut_of : (given old new : Option (List ℕ)) (file : List ℕ) → IfSome given (λ bytes. file ≡ as_read bytes)
    → AreCertificatesCut (Some file) old new → AreCertificatesCut given old new
cut_of given old new file read (inl kept) = inl kept
cut_of given old new file read (inr (inl known)) =
    let says_all : Says given file = says given file read in
    let accepted : IsAccepted file = subst IsAccepted known.whole known.accepted in
    let same : known.file ≡ says_all.whole = known.whole ∙ sym (says_all.accepted accepted) in
    inr (inl (record {
      file = says_all.whole;
      whole = says_all.is_whole;
      accepted = subst IsAccepted same known.accepted;
      steps = known.steps;
      play = known.play;
      calls = known.calls;
      called = subst (λ (f : List ℕ). StepsCall known.steps f known.play known.calls) same known.called;
      groups = known.groups;
      certified = known.certified;
      prefix = known.prefix;
    }))
cut_of given old new file read (inr (inr known)) =
    let says_all : Says given file = says given file read in
    inr (inr (record {
      file = says_all.whole;
      fault = known.fault;
      whole = says_all.is_whole;
      refused = says_all.content ∙ ap content_of (sym known.whole) ∙ known.refused;
      prefix = known.prefix;
    }))

-- before the first round nothing is certified
pub cut_at_start : (file : List ℕ) (old new : Option (List ℕ)) → IsAccepted file
    → AppendsPrefix old new (order_line Certs) → IsCutInGroups (Some file) old new
cut_at_start file old new accepted prefix =
    record {
      file = file;
      whole = refl;
      accepted = accepted;
      steps = zero;
      play = started file;
      calls = [];
      called = (refl, refl);
      groups = [];
      certified = tt;
      prefix = prefix_of_head old new [] prefix;
    }

-- a fault of writing leaves this
pub certificates_stop : (file : List ℕ) (old new : Option (List ℕ)) (failed : Bool) (fault : Fault)
    → IsWriteFault failed fault → AreCertificatesCut (Some file) old new
    → StopsCerts (Some file) old new false failed fault
certificates_stop file old new failed fault is cut =
    stops_cut (AreCertificatesCut (Some file) old new) (IsRefused (Some file) old new) NeverUncertified old new failed
    fault is cut

pub result_stops : {A : Type 0} (result : Result A Fault) (file : List ℕ) (old new : Option (List ℕ)) (failed : Bool)
    → IfErr result (IsWriteFault failed) → OnErr result (IsCutInGroups (Some file) old new)
    → IfErr result (StopsCerts (Some file) old new false failed)
result_stops (Ok done) file old new failed is cut = tt
result_stops (Err fault) file old new failed is cut = certificates_stop file old new failed fault is (inr (inl cut))

-- a prefix of the line that says why a file is refused
refusal_cut : (file : List ℕ) (old new : Option (List ℕ)) (refusal : FileFault) → content_of file ≡ Err refusal
    → AppendsPrefix old new (refusal_line refusal) → AreCertificatesCut (Some file) old new
refusal_cut file old new refusal is prefix =
    inr (inr (record { file = file; fault = refusal; whole = refl; refused = is; prefix = prefix }))

-- what a refused file leaves
pub refusal_stops : (file : List ℕ) (old new : Option (List ℕ)) (failed : Bool) (refusal : FileFault) (fault : Fault)
    → content_of file ≡ Err refusal → Refuses refusal old new failed fault
    → StopsCerts (Some file) old new false failed fault
refusal_stops file old new failed refusal fault is refuses =
    stops_refused (AreCertificatesCut (Some file) old new) (IsRefused (Some file) old new) NeverUncertified old new failed
    refusal fault (refusal_cut file old new refusal is) (refusal_written file old new refusal is) refuses

-- what a fault leaves where this was read
pub stops_of : (given old new : Option (List ℕ)) (file : List ℕ) (read_failed write_failed : Bool) (fault : Fault)
    → IfSome given (λ bytes. file ≡ as_read bytes) →
    read_failed ≡ false → StopsCerts (Some file) old new false write_failed fault
    → StopsCerts given old new read_failed write_failed fault
stops_of given old new file read_failed write_failed fault read unfailed known =
    stops_whole (AreCertificatesCut (Some file) old new) (AreCertificatesCut given old new)
    (IsRefused (Some file) old new) (IsRefused given old new) NeverUncertified NeverUncertified
    (cut_of given old new file read) (λ refusal. refused given old new file refusal read)
    (λ round company never. never) old new read_failed write_failed fault unfailed known

-- what reading leaves where it stops early
pub read_stops_certs : (given old : Option (List ℕ)) (read_failed write_failed : Bool) (fault : Fault)
    → IsReadFault read_failed fault → write_failed ≡ false →
    StopsCerts given old old read_failed write_failed fault
read_stops_certs given old read_failed write_failed fault is unfailed =
    stops_unread (AreCertificatesCut given old old) (IsRefused given old old) NeverUncertified old read_failed
    write_failed fault is unfailed (inl (Keeps-refl old))

-- the texts of the groups ahead, from a group on
pub groups_ahead : (groups : List Group) (place : ℕ) (group : Group) → place < length groups
    → group ≡ get_or groups place group →
    flat_map group_text (drop place groups) ≡ group_text group ++ flat_map group_text (drop (place + 1) groups)
groups_ahead groups place group within is =
    let ahead : drop place groups ≡ group ∷ drop (suc place) groups =
    drop-cons groups place group within ∙ ap (λ (g : Group). g ∷ drop (suc place) groups) (sym is) in
    rw (ahead, add-one) refl
