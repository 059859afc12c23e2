-- What the check of certificates writes, by what it has read and by how the game was judged.
use Rattle.std.proofs.Common.{◌≡◌, ℕ, suc, ◌+◌, ◌-◌, ◌<◌, ◌≤◌, ◌⊎◌, inl, inr, Bool, true, false, List, [], ◌∷◌}
use Rattle.std.proofs.Common.{length, take, refl, sym, ap, subst, ◌∙◌, cond, eqb, arith}
use Rattle.std.proofs.lemmas.Bool.{le-ltb, lt-ltb}
use Rattle.std.proofs.lemmas.List.{length-take-le, take_all}
use Rattle.std.specs.Prelude.{Option, Some, None, Result, Ok, Err, IfErr, IfSome, IsOk, OnErr, nat_lt, unwrap_or}
use Rattle.std.specs.Io.KnownBytes.{Appends}
use Rattle.std.proofs.KnownBytes.{Keeps-refl}
use Rattle.certificate.specs.declared.group.Group.{Group}
use Rattle.report.specs.Report.{IsReport, refusal_line}
use Rattle.rounds.specs.Steps.{Underway}
use Rattle.sheets.proofs.ContentLemmas.{too_long}
use Rattle.sheets.specs.File.{Content, IsAccepted, content_of}
use Rattle.sheets.specs.declared.fault.FileFault.{FileFault}
use Rattle.sheets.specs.declared.fault.FileFault.TheVariants.{TooLong}
use Rattle.tables.specs.declared.roster.Company.{Company}
use Rattle.tables.specs.declared.round.Round.{Round}
use Rattle.umpire.proofs.PartingLemmas.{found_within}
use Rattle.umpire.proofs.Stopping.{stops_refused, stops_unread, stops_whole}
use Rattle.umpire.specs.Failure.{AppendsPrefix}
use Rattle.umpire.specs.Groups.{groups_of}
use Rattle.umpire.specs.InputSplit.{certificates_most, certificates_of_input, file_before, from_divider}
use Rattle.umpire.specs.InputSplit.{order_file_of, without_newline}
use Rattle.umpire.specs.Rounds.{IsTextOfRounds, WritesAllRounds, WritesPrefixOfRounds}
use Rattle.umpire.specs.Run.{IsCutShort, IsFileOf, IsReadFault, IsReported, IsWriteFault, Refuses}
use Rattle.umpire.specs.Verify.{AnswersContent, AnswersGame, AnswersInput, HasAllGroups, IsAnswerCut, IsAnswered}
use Rattle.umpire.specs.Verify.{IsGameAnswered, IsGameCut, IsInputRefused, IsRefusal, IsUncertified, LacksGroup}
use Rattle.umpire.specs.Verify.{StopsGame, StopsVerify, content_of_input, uncertified_line}
use Rattle.umpire.specs.declared.fault.Fault.{Fault}
use Rattle.umpire.specs.declared.fault.Fault.TheVariants.{Read, Write, Memory, File, Certificate}

-- one number is at most another, or more
either : (a b : ℕ) → (a ≤ b) ⊎ (b < a)
either a b = grind arith

-- one byte at most goes from the end
less_newline : (bytes : List ℕ) → length bytes ≤ suc (length (without_newline bytes))
less_newline [] = omega arith
less_newline (byte ∷ []) =
    elim (eqb byte 10) as (λ b. length (byte ∷ []) ≤ suc (length (cond b [] (byte ∷ []))))
    [ true ↦ omega arith | false ↦ omega arith ]
less_newline (byte ∷ next ∷ bytes) = omega (arith, less_newline (next ∷ bytes))

-- the two parts and an LF make up the whole
parts_of : (input : List ℕ) (found : Option (List ℕ))
    → ((text : List ℕ) → found ≡ Some text → length text ≤ length input) →
    length input ≤ length (file_before input found) + 1 + length (unwrap_or found [])
parts_of input None within = omega arith
parts_of input (Some text) within =
    let few : length text ≤ length input = within text refl in
    let prefix : length (take (length input - length text) input) ≡ length input - length text =
    length-take-le (length input - length text) input (omega arith) in
    omega (arith, less_newline (take (length input - length text) input), prefix)

make_up : (input : List ℕ) → length input ≤ length (order_file_of input) + 1 + length (certificates_of_input input)
unfolding order_file_of certificates_of_input
make_up input = parts_of input (from_divider true input) (λ text is. found_within true input text is)

-- the text of certificates is over its limit
pub over_limit : (input : List ℕ) → certificates_most < length (certificates_of_input input)
    → content_of_input input ≡ Err TooLong
unfolding content_of_input
over_limit input over =
    let t : nat_lt certificates_most (length (certificates_of_input input)) ≡ true =
    lt-ltb certificates_most (length (certificates_of_input input)) over in
    rw t refl

-- it is within
pub within_limit : (input : List ℕ) → length (certificates_of_input input) ≤ certificates_most
    → content_of_input input ≡ content_of (order_file_of input)
unfolding content_of_input
within_limit input within =
    let t : nat_lt certificates_most (length (certificates_of_input input)) ≡ false =
    le-ltb certificates_most (length (certificates_of_input input)) within in
    rw t refl

-- an input over both limits and the LF is refused
input_too_long : (input : List ℕ) → 134217729 < length input → content_of_input input ≡ Err TooLong
input_too_long input many =
    elim (either (length (certificates_of_input input)) certificates_most) [
      | inl within ↦ within_limit input within ∙ too_long (order_file_of input) (omega (arith, make_up input))
      | inr over ↦ over_limit input over
    ]

-- what a whole input says, where this was read of it
pub record SaysInput (given : Option (List ℕ)) (input : List ℕ) : Type 0 where
  pub whole : List ℕ
  pub is_whole : IsFileOf given whole
  pub content : content_of_input whole ≡ content_of_input input
  pub taken : IsOk (content_of_input input) → whole ≡ input

says_input_by : (bytes input : List ℕ) → input ≡ take 134217730 bytes
    → (length bytes ≤ 134217729) ⊎ (134217729 < length bytes) → SaysInput (Some bytes) input
says_input_by bytes input read (inl few) =
    let same : bytes ≡ input = sym (read ∙ take_all 134217730 bytes (omega arith)) in
    record { whole = bytes; is_whole = refl; content = ap content_of_input same; taken = λ taken. same }
says_input_by bytes input read (inr many) =
    let full : length input ≡ 134217730 = rw read (length-take-le 134217730 bytes (omega arith)) in
    let refused : content_of_input input ≡ Err TooLong = input_too_long input (omega arith) in
    record {
      whole = bytes;
      is_whole = refl;
      content = input_too_long bytes many ∙ sym refused;
      taken = λ taken. absurd (let wrong : IsOk {T = Content} (Err TooLong) =
          subst (λ (content : Result Content FileFault). IsOk content) refused taken in cc);
    }

pub says_input : (given : Option (List ℕ)) (input : List ℕ) → IfSome given (λ bytes. input ≡ take 134217730 bytes)
    → SaysInput given input
says_input None input read = record { whole = input; is_whole = tt; content = refl; taken = λ taken. refl }
says_input (Some bytes) input read = says_input_by bytes input read (either (length bytes) 134217729)

-- for what was read it writes what it writes for the whole input
answers_whole :
    (input whole text : List ℕ) (outcome : Result (Unit {0}) Fault) (content : Result Content FileFault)
    → content_of_input input ≡ content →
    content_of_input whole ≡ content_of_input input → (IsOk (content_of_input input) → whole ≡ input)
    → AnswersInput input outcome text →
    AnswersInput whole outcome text
answers_whole input whole text outcome (Ok content) is same taken answers =
    subst (λ (other : List ℕ). AnswersInput other outcome text)
    (sym (taken (subst (λ (r : Result Content FileFault). IsOk r) (sym is) refl))) answers
answers_whole input whole text outcome (Err fault) is same taken answers =
    subst (λ (r : Result Content FileFault). AnswersContent whole r outcome text) (sym (same ∙ is))
    (subst (λ (r : Result Content FileFault). AnswersContent input r outcome text) is answers)

pub answered :
    (given old new : Option (List ℕ)) (input text : List ℕ) (outcome : Result (Unit {0}) Fault)
    → IfSome given (λ bytes. input ≡ take 134217730 bytes) →
    AnswersInput input outcome text → Appends old new text → IsAnswered given outcome old new
answered given old new input text outcome read answers written =
    let says : SaysInput given input = says_input given input read in
    record {
      input = says.whole;
      text = text;
      whole = says.is_whole;
      answers = answers_whole input says.whole text outcome (content_of_input input) refl says.content says.taken
          answers;
      written = written;
    }

-- what it writes for what was read is that for the whole input
pub answered_whole :
    (given old new : Option (List ℕ)) (input : List ℕ) (outcome : Result (Unit {0}) Fault)
    → IfSome given (λ bytes. input ≡ take 134217730 bytes) →
    IsAnswered (Some input) outcome old new → IsAnswered given outcome old new
answered_whole given old new input outcome read known =
    answered given old new input known.text outcome read
    (subst (λ (other : List ℕ). AnswersInput other outcome known.text) known.whole known.answers)
    known.written

-- so is an answer that was cut short
cut_whole : (given old new : Option (List ℕ)) (input : List ℕ) → IfSome given (λ bytes. input ≡ take 134217730 bytes)
    → IsAnswerCut (Some input) old new → IsAnswerCut given old new
cut_whole given old new input read (inl kept) = inl kept
cut_whole given old new input read (inr known) =
    let says : SaysInput given input = says_input given input read in
    inr (record {
      input = says.whole;
      outcome = known.outcome;
      text = known.text;
      whole = says.is_whole;
      answers = answers_whole input says.whole known.text known.outcome (content_of_input input) refl says.content
          says.taken (subst (λ (other : List ℕ). AnswersInput other known.outcome known.text) known.whole known.answers);
      prefix = known.prefix;
    })

pub stops_of_input :
    (given old new : Option (List ℕ)) (input : List ℕ) (read_failed write_failed : Bool) (fault : Fault) →
    IfSome given (λ bytes. input ≡ take 134217730 bytes) → read_failed ≡ false
    → StopsVerify (Some input) old new false write_failed fault →
    StopsVerify given old new read_failed write_failed fault
stops_of_input given old new input read_failed write_failed fault read unfailed known =
    stops_whole (IsAnswerCut (Some input) old new) (IsAnswerCut given old new) (IsInputRefused (Some input) old new)
    (IsInputRefused given old new) (IsUncertified (Some input) old new) (IsUncertified given old new)
    (cut_whole given old new input read)
    (λ refusal. answered_whole given old new input (Err (File refusal)) read)
    (λ round company. answered_whole given old new input (Err (Certificate round company)) read) old new read_failed
    write_failed fault unfailed known

-- reading stopped early, and nothing was written
pub stops_reading :
    (given old : Option (List ℕ)) (read_failed write_failed : Bool) (fault : Fault) → IsReadFault read_failed fault
    → write_failed ≡ false →
    StopsVerify given old old read_failed write_failed fault
stops_reading given old read_failed write_failed fault is unfailed =
    stops_unread (IsAnswerCut given old old) (IsInputRefused given old old) (IsUncertified given old old) old read_failed
    write_failed fault is unfailed (inl (Keeps-refl old))

-- for a file that is refused it writes that refusal
pub refusal_answers : (input text : List ℕ) (fault : FileFault) (outcome : Result (Unit {0}) Fault)
    → content_of_input input ≡ Err fault → IsRefusal fault outcome text → AnswersInput input outcome text
refusal_answers input text fault outcome is refusal =
    subst (λ (content : Result Content FileFault). AnswersContent input content outcome text) (sym is) refusal

-- one that is not, as its game is judged
judgement_by :
    (input text : List ℕ) (outcome : Result (Unit {0}) Fault) (content : Result Content FileFault) → IsOk content →
    AnswersGame (order_file_of input) (groups_of (certificates_of_input input)) outcome text
    → AnswersContent input content outcome text
judgement_by input text outcome (Ok content) accepted answers = answers
judgement_by input text outcome (Err fault) accepted answers = absurd cc

pub judgement_answers :
    (input file certificates text : List ℕ) (outcome : Result (Unit {0}) Fault) → file ≡ order_file_of input
    → certificates ≡ certificates_of_input input →
    length certificates ≤ certificates_most → IsAccepted file → AnswersGame file (groups_of certificates) outcome text →
    AnswersInput input outcome text
judgement_answers input file certificates text outcome of_file of_certificates within accepted answers =
    let few : length (certificates_of_input input) ≤ certificates_most =
    subst (λ (t : List ℕ). length t ≤ certificates_most) of_certificates within in
    let of_whole : AnswersGame (order_file_of input) (groups_of (certificates_of_input input)) outcome text =
    subst (λ (t : List ℕ). AnswersGame (order_file_of input) (groups_of t) outcome text) of_certificates
    (subst (λ (f : List ℕ). AnswersGame f (groups_of certificates) outcome text) of_file answers) in
    subst (λ (content : Result Content FileFault). AnswersContent input content outcome text)
    (sym (within_limit input few))
    (judgement_by input text outcome (content_of (order_file_of input)) (subst IsAccepted of_file accepted) of_whole)

-- so for an input it writes what it writes for its game
pub game_answers :
    (input file certificates : List ℕ) (old new : Option (List ℕ)) (outcome : Result (Unit {0}) Fault)
    → file ≡ order_file_of input →
    certificates ≡ certificates_of_input input → length certificates ≤ certificates_most → IsAccepted file →
    IsGameAnswered file (groups_of certificates) outcome old new → IsAnswered (Some input) outcome old new
game_answers input file certificates old new outcome of_file of_certificates within accepted known =
    record {
      input = input;
      text = known.text;
      whole = refl;
      answers = judgement_answers input file certificates known.text outcome of_file of_certificates within accepted
          known.answers;
      written = known.written;
    }

game_cut :
    (input file certificates : List ℕ) (old new : Option (List ℕ)) → file ≡ order_file_of input →
    certificates ≡ certificates_of_input input → length certificates ≤ certificates_most → IsAccepted file →
    IsGameCut file (groups_of certificates) old new → IsAnswerCut (Some input) old new
game_cut input file certificates old new of_file of_certificates within accepted (inl kept) = inl kept
game_cut input file certificates old new of_file of_certificates within accepted (inr known) =
    inr (record {
      input = input;
      outcome = known.outcome;
      text = known.text;
      whole = refl;
      answers = judgement_answers input file certificates known.text known.outcome of_file of_certificates within
          accepted known.answers;
      prefix = known.prefix;
    })

pub game_stops :
    (input file certificates : List ℕ) (old new : Option (List ℕ)) (failed : Bool) (fault : Fault)
    → file ≡ order_file_of input →
    certificates ≡ certificates_of_input input → length certificates ≤ certificates_most → IsAccepted file →
    StopsGame file (groups_of certificates) old new failed fault → StopsVerify (Some input) old new false failed fault
game_stops input file certificates old new failed Read of_file of_certificates within accepted stops = absurd stops
game_stops input file certificates old new failed Write of_file of_certificates within accepted stops =
    (refl, stops.0, game_cut input file certificates old new of_file of_certificates within accepted stops.1)
game_stops input file certificates old new failed Memory of_file of_certificates within accepted stops =
    (refl, stops.0, game_cut input file certificates old new of_file of_certificates within accepted stops.1)
game_stops input file certificates old new failed (File fault) of_file of_certificates within accepted stops =
    absurd stops
game_stops input file certificates old new failed (Certificate round company) of_file of_certificates within accepted
    stops = (
      refl,
      stops.0,
      game_answers input file certificates old new (Err (Certificate round company)) of_file
          of_certificates within accepted stops.1,
    )

-- the line that says why an input is refused is its answer
refusal_answered : (input : List ℕ) (old new : Option (List ℕ)) (refusal : FileFault)
    → content_of_input input ≡ Err refusal → Appends old new (refusal_line refusal)
    → IsInputRefused (Some input) old new refusal
refusal_answered input old new refusal is written =
    record {
      input = input;
      text = refusal_line refusal;
      whole = refl;
      answers = refusal_answers input (refusal_line refusal) refusal (Err (File refusal)) is (refl, refl);
      written = written;
    }

refusal_cut : (input : List ℕ) (old new : Option (List ℕ)) (refusal : FileFault)
    → content_of_input input ≡ Err refusal → AppendsPrefix old new (refusal_line refusal)
    → IsAnswerCut (Some input) old new
refusal_cut input old new refusal is prefix =
    inr (record {
      input = input;
      outcome = Err (File refusal);
      text = refusal_line refusal;
      whole = refl;
      answers = refusal_answers input (refusal_line refusal) refusal (Err (File refusal)) is (refl, refl);
      prefix = prefix;
    })

-- so is what that line leaves
pub refusal_stops :
    (input : List ℕ) (old new : Option (List ℕ)) (failed : Bool) (refusal : FileFault) (fault : Fault)
    → content_of_input input ≡ Err refusal →
    Refuses refusal old new failed fault → StopsVerify (Some input) old new false failed fault
refusal_stops input old new failed refusal fault is refuses =
    stops_refused (IsAnswerCut (Some input) old new) (IsInputRefused (Some input) old new) (IsUncertified (Some input) old new)
    old new failed refusal fault (refusal_cut input old new refusal is) (refusal_answered input old new refusal is) refuses

-- for a game that has all its groups it writes the report
pub report_answers :
    (file : List ℕ) (groups : List (Option Group)) (old new : Option (List ℕ)) → HasAllGroups file groups
    → IsReported (Some file) old new →
    IsGameAnswered file groups (Ok tt) old new
report_answers file groups old new all reported =
    record {
      text = reported.text;
      answers = (all, subst (λ (other : List ℕ). IsReport other reported.text) reported.whole reported.report);
      written = reported.written;
    }

-- for one in which a call is the first that has none it writes the line that says so
pub refusal_answers_game :
    (file : List ℕ) (groups : List (Option Group)) (old new : Option (List ℕ)) (failed : Bool) (round : Round)
    (company : Company) →
    Appends old new (uncertified_line round company) → failed ≡ false → LacksGroup file groups round company →
    StopsGame file groups old new failed (Certificate round company)
refusal_answers_game file groups old new failed round company written unfailed lacks =
    (unfailed, record { text = uncertified_line round company; answers = (lacks, refl); written = written })

-- a prefix of that report, or of that line
pub report_cut : (file : List ℕ) (groups : List (Option Group)) (old new : Option (List ℕ)) → HasAllGroups file groups
    → IsCutShort (Some file) old new → IsGameCut file groups old new
report_cut file groups old new all cut =
    inr (record {
      outcome = Ok tt;
      text = cut.text;
      answers = (all, subst (λ (other : List ℕ). IsReport other cut.text) cut.whole cut.report);
      prefix = cut.prefix;
    })

pub line_cut : (file : List ℕ) (groups : List (Option Group)) (old new : Option (List ℕ)) (round : Round)
    (company : Company) → LacksGroup file groups round company → AppendsPrefix old new (uncertified_line round company)
    → IsGameCut file groups old new
line_cut file groups old new round company lacks prefix =
    inr (record {
      outcome = Err (Certificate round company);
      text = uncertified_line round company;
      answers = (lacks, refl);
      prefix = prefix;
    })

-- nothing was written
pub none_cut : (file : List ℕ) (groups : List (Option Group)) (old : Option (List ℕ)) → IsGameCut file groups old old
none_cut file groups old = inl (Keeps-refl old)

-- a fault of writing there
pub writing_stops :
    (file : List ℕ) (groups : List (Option Group)) (old new : Option (List ℕ)) (failed : Bool) (fault : Fault)
    → IsWriteFault failed fault → IsGameCut file groups old new → StopsGame file groups old new failed fault
writing_stops file groups old new failed Read is cut = absurd is
writing_stops file groups old new failed Write is cut = (is, cut)
writing_stops file groups old new failed Memory is cut = (is, cut)
writing_stops file groups old new failed (File fault) is cut = absurd is
writing_stops file groups old new failed (Certificate round company) is cut = absurd is

pub played_stops :
    {A : Type 0} (result : Result A Fault) (file : List ℕ) (groups : List (Option Group)) (old new : Option (List ℕ))
    (failed : Bool) → HasAllGroups file groups → IfErr result (IsWriteFault failed)
    → OnErr result (IsCutShort (Some file) old new) → IfErr result (StopsGame file groups old new failed)
played_stops (Ok done) file groups old new failed all is cut = tt
played_stops (Err fault) file groups old new failed all is cut =
    writing_stops file groups old new failed fault is (report_cut file groups old new all cut)

-- the texts of all rounds, once they are written
pub rounds_are_written :
    (file : List ℕ) (ended : Underway) (text : List ℕ) (old new : Option (List ℕ)) → IsTextOfRounds file ended text
    → Appends old new text →
    WritesAllRounds file ended old new
rounds_are_written file ended text old new all written =
    record {
      last = all.last;
      rounds = record { steps = all.steps; text = text; is_text = all.is_text; written = written };
      end = all.end;
      stays = all.stays;
    }

-- a prefix of these texts
pub prefix_of_rounds : (file : List ℕ) (ended : Underway) (text : List ℕ) (old new : Option (List ℕ))
    → IsTextOfRounds file ended text → AppendsPrefix old new text → WritesPrefixOfRounds file old new
prefix_of_rounds file ended text old new all prefix =
    record { steps = all.steps; play = all.last; text = text; is_text = all.is_text; prefix = prefix }
