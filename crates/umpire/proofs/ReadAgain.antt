-- Certificates are read as they were written.
use Rattle.std.proofs.Common.{◌≡◌, ℕ, zero, suc, ◌<◌, ◌≤◌, ◌⊎◌, Bool, true, false, List, [], ◌∷◌, ◌++◌}
use Rattle.std.proofs.Common.{decimal, Option, Some, Ok, codes, length, take, drop, map, append_assoc}
use Rattle.std.proofs.Common.{refl, sym, ap, subst, ◌∙◌, inl, inr, arith}
use Rattle.std.specs.List.{AllByRecursion, flat_map}
use Rattle.std.proofs.lemmas.List.{append-nil, drop_all, length-drop, length-take, length-take-le, take-append-drop}
use Rattle.std.proofs.lemmas.List.{take_all}
use Rattle.std.proofs.lemmas.List.Concat.{flat_map-cons}
use Rattle.certificate.specs.Digits.{bits_of_digits, digits_of}
use Rattle.certificate.specs.Holding.{AreFilling}
use Rattle.legal_runs.specs.declared.claim.ClaimedRun.{ClaimedRun}
use Rattle.certificate.specs.declared.group.Group.{Group}
use Rattle.certificate.proofs.Printed.{reads_what_was_printed}
use Rattle.map_tables.specs.Text.{text_of_place}
use Rattle.tables.specs.Roster.{code_of_company}
use Rattle.tables.specs.Round.{number_most}
use Rattle.tables.specs.Train.{code_of_kind}
use Rattle.tables.specs.declared.roster.Company.{Company}
use Rattle.tables.specs.declared.round.Round.{Round}
use Rattle.order_grammar.specs.Form.{cert_forms}
use Rattle.order_grammar.specs.Line.{cert_reading_of}
use Rattle.order_grammar.specs.Print.{spaced, spelling_of, text_of_round}
use Rattle.order_grammar.specs.Spells.{ArePlaces, End, HasSpelling, IsCompany, IsKind, IsNumber, IsRoundOfLine, IsWord}
use Rattle.order_grammar.specs.Spells.{SpellsIn, Then}
use Rattle.order_grammar.specs.Texts.{certificate}
use Rattle.order_grammar.specs.Words.{first_of_words, raised, same_word, words_of}
use Rattle.order_grammar.specs.declared.order.Order.{Order}
use Rattle.order_grammar.specs.declared.order.Order.TheVariants.{Cert, Certs, Claim, Marks}
use Rattle.order_grammar.proofs.PartLemmas.{rows_of_certificates}
use Rattle.order_grammar.proofs.SpellingLemmas.{spelling_read}
use Rattle.order_grammar.proofs.SpellsLemmas.{read_spells}
use Rattle.sheets.specs.Text.{lines_of}
use Rattle.umpire.specs.Groups.{begins_group, group_begun, group_with_line, groups_in, groups_of, with_lines}
use Rattle.umpire.specs.Groups.{with_reading}
use Rattle.umpire.specs.Laws.{BeginsAlone}
use Rattle.umpire.specs.InputSplit.{is_divider, says_certs}
use Rattle.umpire.specs.ReadAgain.{AreReadAgain, CanBeWritten, IsReadAgain, ReadsBack}
use Rattle.umpire.specs.Written.{certificates_text, claim_line, group_text, marks_lines, marks_lines_within, order_line}
use Rattle.umpire.proofs.GroupLemmas.{raised_digits}
use Rattle.umpire.proofs.MarksLines.{HasLine, full_digits, has_line, marks_of}
use Rattle.umpire.proofs.WrittenLines.{ArePrintable, IsWritten, all_written, both_printable, both_written, claim_fits}
use Rattle.umpire.proofs.WrittenLines.{line_written, lines_written, nothing_written, printable_company, printable_kind}
use Rattle.umpire.proofs.WrittenLines.{printable_number, printable_places, printable_round, printable_spaced}

-- whether a line begins a group, by its first word
begins_by : (line word : List ℕ) → first_of_words (words_of line) ≡ word
    → begins_group line ≡ same_word word (codes "CERT")
unfolding begins_group
begins_by line word is = ap (λ (first : List ℕ). same_word first (codes "CERT")) is

first_word : (word : List ℕ) (rest : List (List ℕ) → Type 0) (words : List (List ℕ)) → Then (IsWord word) rest words
    → first_of_words words ≡ word
first_word word rest [] then = absurd then
first_word word rest (first ∷ words) then = then.0

-- what a line adds to a group
line_adds : (group : Group) (line : List ℕ) (order : Order) (words : List (List ℕ)) (next : Option Group)
    → cert_reading_of line ≡ Ok order → words_of line ≡ words →
    with_reading group words (Ok order) ≡ next → group_with_line group line ≡ next
unfolding group_with_line
line_adds group line order words next reads is adds =
    (λ i. with_reading group (is i) (reads i)) ∙ adds

-- the CERT line of a group
cert_of : Group → List ℕ
cert_of group = spelling_of (Cert group.round group.company group.claim.revenue)

-- the CLAIM lines of runs
claims_of : List ClaimedRun → List (List ℕ)
claims_of [] = []
claims_of (claimed ∷ runs) = spelling_of (Claim claimed.kind claimed.run) ∷ claims_of runs

-- the MARKS lines of bits, at most this many of them
marks_within : ℕ → List Bool → List (List ℕ)
marks_within zero bits = []
marks_within (suc count) [] = []
marks_within (suc count) (bit ∷ bits) = marks_of (digits_of (take 4000 (bit ∷ bits)))
    ∷ marks_within count (drop 4000 (bit ∷ bits))

-- the lines of a group, and those of some
lines_of_group : Group → List (List ℕ)
lines_of_group group = (cert_of group ∷ claims_of group.claim.runs) ++ marks_within (length group.bits) group.bits

-- no line begins a group
abbrev NoneBegins : List (List ℕ) → Type 0
NoneBegins lines = AllByRecursion (λ line. begins_group line ≡ false) lines

-- the CERT line: it is printable, begins a group, and is read again
record IsCertLine (round : Round) (company : Company) (revenue : ℕ) : Type 0 where
  printable : ArePrintable (spelling_of (Cert round company revenue))
  reads : cert_reading_of (spelling_of (Cert round company revenue)) ≡ Ok (Cert round company revenue)
  begins : begins_group (spelling_of (Cert round company revenue)) ≡ true

cert_line : (round : Round) (company : Company) (revenue : ℕ) → HasSpelling (Cert round company revenue)
    → IsCertLine round company revenue
cert_line round company revenue spelt =
    let order : Order = Cert round company revenue in
    let reads : cert_reading_of (spelling_of order) ≡ Ok order =
    spelling_read certificate cert_forms rows_of_certificates (omega arith) order (spelt, tt, (1, omega arith, refl)) in
    let spells : SpellsIn certificate (spelling_of order) order =
    read_spells certificate cert_forms rows_of_certificates (spelling_of order) order reads in
    let words : List (List ℕ) = text_of_round round ∷ code_of_company company ∷ decimal revenue ∷ [] in
    let small : revenue ≤ number_most = spelt.1 in
    record {
      printable = both_printable (codes "CERT") (spaced words) refl
          (printable_spaced words (
            printable_round round spelt.0,
            (printable_company company, (printable_number revenue (omega (arith, small)), tt)),
          ));
      reads = reads;
      begins = begins_by (spelling_of order) (codes "CERT")
          (first_word (codes "CERT") (Then (IsRoundOfLine round)
          (Then (IsCompany company) (Then (IsNumber revenue) End))) (words_of (spelling_of order))
          spells.loosely.words);
    }

-- a run has a CLAIM line
abbrev CanBeClaimed : ClaimedRun → Type 0
CanBeClaimed claimed = HasSpelling (Claim claimed.kind claimed.run)

-- a CLAIM line
record IsClaimLine (claimed : ClaimedRun) : Type 0 where
  printable : ArePrintable (spelling_of (Claim claimed.kind claimed.run))
  reads : cert_reading_of (spelling_of (Claim claimed.kind claimed.run)) ≡ Ok (Claim claimed.kind claimed.run)
  begins : begins_group (spelling_of (Claim claimed.kind claimed.run)) ≡ false

claim_line_is : (claimed : ClaimedRun) → CanBeClaimed claimed → IsClaimLine claimed
claim_line_is claimed spelt =
    let order : Order = Claim claimed.kind claimed.run in
    let reads : cert_reading_of (spelling_of order) ≡ Ok order =
    spelling_read certificate cert_forms rows_of_certificates (omega arith) order
    (spelt, claim_fits claimed.kind claimed.run spelt.1, (2, omega arith, refl)) in
    let spells : SpellsIn certificate (spelling_of order) order =
    read_spells certificate cert_forms rows_of_certificates (spelling_of order) order reads in
    let words : List (List ℕ) = code_of_kind claimed.kind ∷ map text_of_place claimed.run in
    record {
      printable = both_printable (codes "CLAIM") (spaced words) refl
          (printable_spaced words (printable_kind claimed.kind, printable_places claimed.run));
      reads = reads;
      begins = begins_by (spelling_of order) (codes "CLAIM")
          (first_word (codes "CLAIM") (Then (IsKind claimed.kind) (ArePlaces claimed.run))
          (words_of (spelling_of order)) spells.loosely.words);
    }

-- a group with this claim and these bits
abbrev having : Group → List ClaimedRun → List Bool → Group
having group runs bits =
    record {
      round = group.round;
      company = group.company;
      claim =
          record { revenue = group.claim.revenue; runs = runs };
      bits = bits;
    }

-- a line of a group is taken up
taken : (group next : Group) (line : List ℕ) (lines : List (List ℕ)) → begins_group line ≡ false
    → group_with_line group line ≡ Some next →
    with_lines (line ∷ lines) (Some group) ≡ with_lines lines (Some next)
taken group next line lines begins adds = rw (begins, adds) refl

-- the CLAIM lines are read
claims_read :
    (group : Group) (before runs : List ClaimedRun) (more : List (List ℕ)) → AllByRecursion CanBeClaimed runs →
    with_lines (claims_of runs ++ more) (Some (having group before []))
    ≡ with_lines more (Some (having group (before ++ runs) []))
unfolding claims_of
claims_read group before [] more all = rw (append-nil before) refl
claims_read group before (claimed ∷ runs) more all =
    let line = claim_line_is claimed all.0 in
    let text : List ℕ = spelling_of (Claim claimed.kind claimed.run) in
    let adds : group_with_line (having group before []) text ≡ Some (having group (before ++ claimed ∷ []) []) =
    line_adds (having group before []) text (Claim claimed.kind claimed.run) (words_of text)
    (Some (having group (before ++ claimed ∷ []) [])) line.reads refl refl in
    taken (having group before []) (having group (before ++ claimed ∷ []) []) text (claims_of runs ++ more)
    line.begins adds
    ∙ claims_read group (before ++ claimed ∷ []) runs more all.1
    ∙ ap (λ (all_runs : List ClaimedRun). with_lines more (Some (having group all_runs [])))
    (append_assoc before (claimed ∷ []) runs)

-- no line is left for no bits
no_marks : (count : ℕ) → marks_within count [] ≡ []
unfolding marks_within
no_marks zero = refl
no_marks (suc count) = refl

-- bits are read after others, and what fills up the last digit with them
record AreRead (group : Group) (runs : List ClaimedRun) (before : List Bool) (lines more : List (List ℕ))
    (bits : List Bool) : Type 0 where
  filling : List Bool
  fills : AreFilling filling
  read : with_lines (lines ++ more) (Some (having group runs before))
      ≡ with_lines more (Some (having group runs (before ++ (bits ++ filling))))

-- a MARKS line adds its bits
marks_add :
    (group : Group) (runs : List ClaimedRun) (before bits : List Bool) (lines : List (List ℕ)) → HasLine bits →
    with_lines (marks_of (digits_of bits) ∷ lines) (Some (having group runs before))
    ≡ with_lines lines (Some (having group runs (before ++ bits_of_digits (digits_of bits))))
marks_add group runs before bits lines line =
    let text : List ℕ = marks_of (digits_of bits) in
    let next : Group = having group runs (before ++ bits_of_digits (digits_of bits)) in
    let same : bits_of_digits (raised (digits_of bits)) ≡ bits_of_digits (digits_of bits) =
    raised_digits (digits_of bits) in
    let adds : group_with_line (having group runs before) text ≡ Some next =
    line_adds (having group runs before) text Marks (codes "MARKS" ∷ raised (digits_of bits) ∷ []) (Some next)
    line.reads line.words
    (ap (λ (more : List Bool). Some (having group runs (before ++ more))) same) in
    taken (having group runs before) next text lines (begins_by text (codes "MARKS") (ap first_of_words line.words))
    adds

-- the MARKS lines are read
marks_read_from :
    (count : ℕ) (group : Group) (runs : List ClaimedRun) (before bits : List Bool) (more : List (List ℕ))
    → length bits ≤ count →
    AreRead group runs before (marks_within count bits) more bits
unfolding marks_within
marks_read_from zero group runs before [] more within =
    record { filling = []; fills = (omega arith, tt); read = rw (append-nil before) refl }
marks_read_from zero group runs before (bit ∷ bits) more within = absurd (omega arith)
marks_read_from (suc count) group runs before [] more within =
    record { filling = []; fills = (omega arith, tt); read = rw (append-nil before) refl }
marks_read_from (suc count) group runs before (bit ∷ bits) more within =
    let all : List Bool = bit ∷ bits in
    let either : (length all ≤ 4000) ⊎ (4000 < length all) = grind arith in
    elim either [
      | inl few ↦
          let whole : take 4000 all ≡ all = take_all 4000 all few in
          let rest : drop 4000 all ≡ [] = drop_all 4000 all few in
          let again = reads_what_was_printed all in
          let line = marks_add group runs before all more (has_line all (omega arith) few) in
          let lines : marks_of (digits_of (take 4000 all)) ∷ marks_within count (drop 4000 all)
          ≡ marks_of (digits_of all) ∷ [] =
          (λ i. marks_of (digits_of (whole i)) ∷ marks_within count (rest i))
          ∙ ap (λ (l : List (List ℕ)). marks_of (digits_of all) ∷ l) (no_marks count) in
          record {
            filling = again.0;
            fills = again.2;
            read =
                ap (λ (l : List (List ℕ)). with_lines (l ++ more) (Some (having group runs before))) lines ∙ line
                ∙ ap (λ (b : List Bool). with_lines more (Some (having group runs (before ++ b)))) again.1;
          }
      | inr many ↦
          let size : length (take 4000 all) ≡ 4000 = length-take-le 4000 all (omega arith) in
          let full : bits_of_digits (digits_of (take 4000 all)) ≡ take 4000 all =
          full_digits (take 4000 all) 1000 size in
          let later = marks_read_from count group runs (before ++ take 4000 all) (drop 4000 all) more
          (omega (arith, length-drop 4000 all)) in
          let line = marks_add group runs before (take 4000 all) (marks_within count (drop 4000 all) ++ more)
          (has_line (take 4000 all) (omega (arith, size)) (omega (arith, size))) in
          let joined : (before ++ take 4000 all) ++ (drop 4000 all ++ later.filling)
          ≡ before ++ (all ++ later.filling) =
          append_assoc before (take 4000 all) (drop 4000 all ++ later.filling)
          ∙ ap (λ (b : List Bool). before ++ b) (sym (append_assoc (take 4000 all) (drop 4000 all) later.filling)
          ∙ ap (λ (b : List Bool). b ++ later.filling) (take-append-drop 4000 all)) in
          record {
            filling = later.filling;
            fills = later.fills;
            read =
                line ∙ ap (λ (b : List Bool). with_lines (marks_within count (drop 4000 all) ++ more)
                (Some (having group runs (before ++ b)))) full
                ∙ later.read ∙ ap (λ (b : List Bool). with_lines more (Some (having group runs b))) joined;
          }
    ]

-- the lines of a group after its CERT line begin no other
claims_begin_none : (runs : List ClaimedRun) → AllByRecursion CanBeClaimed runs → NoneBegins (claims_of runs)
unfolding claims_of
claims_begin_none [] all = tt
claims_begin_none (claimed ∷ runs) all = ((claim_line_is claimed all.0).begins, claims_begin_none runs all.1)

length-take-most : (most : ℕ) (bits : List Bool) → length (take most bits) ≤ most
length-take-most most bits = omega (arith, length-take most bits)

-- the first of some bits have a line
first_line_of : (bit : Bool) (bits : List Bool) → HasLine (take 4000 (bit ∷ bits))
first_line_of bit bits = has_line (take 4000 (bit ∷ bits)) (omega arith) (length-take-most 4000 (bit ∷ bits))

marks_begin_none : (count : ℕ) (bits : List Bool) → NoneBegins (marks_within count bits)
unfolding marks_within
marks_begin_none zero bits = tt
marks_begin_none (suc count) [] = tt
marks_begin_none (suc count) (bit ∷ bits) =
    let line = first_line_of bit bits in (
      begins_by (marks_of (digits_of (take 4000 (bit ∷ bits)))) (codes "MARKS") (ap first_of_words line.words),
      marks_begin_none count (drop 4000 (bit ∷ bits)),
    )

-- lines that begin no group are passed over
passed : (lines more : List (List ℕ)) → NoneBegins lines → groups_in (lines ++ more) ≡ groups_in more
passed [] more none = refl
passed (line ∷ lines) more none = rw none.0 (passed lines more none.1)

-- a line that begins a group begins it with what is read of it
written_turns_at : (line : List ℕ) (lines : List (List ℕ)) (begun : Option Group) → begins_group line ≡ true
    → group_begun (cert_reading_of line) ≡ begun →
    groups_in (line ∷ lines) ≡ with_lines lines begun ∷ groups_in lines
written_turns_at line lines begun begins is = rw (begins, is) refl

-- lines that begin with a group, if there are any
abbrev BeginAnew : List (List ℕ) → Type 0
BeginAnew [] = Unit {0}
BeginAnew (line ∷ lines) = begins_group line ≡ true

ends_here : (lines : List (List ℕ)) (group : Option Group) → BeginAnew lines → with_lines lines group ≡ group
ends_here [] group ends = refl
ends_here (line ∷ lines) group ends = rw ends refl

-- a group is read, and then those of the lines after it
record IsGroupRead (group : Group) (more : List (List ℕ)) : Type 0 where
  first : Option Group
  again : IsReadAgain group first
  read : groups_in (lines_of_group group ++ more) ≡ first ∷ groups_in more

group_read : (group : Group) (more : List (List ℕ)) → CanBeWritten group → BeginAnew more → IsGroupRead group more
unfolding lines_of_group cert_of
group_read group more can ends =
    let cert = cert_line group.round group.company group.claim.revenue can.cert in
    let claims : List (List ℕ) = claims_of group.claim.runs in
    let marks : List (List ℕ) = marks_within (length group.bits) group.bits in
    let begun : Group = having group [] [] in
    let read_marks = marks_read_from (length group.bits) group group.claim.runs [] group.bits more (omega arith) in
    let parted : (claims ++ marks) ++ more ≡ claims ++ (marks ++ more) = append_assoc claims marks more in
    let whole : with_lines ((claims ++ marks) ++ more) (Some begun)
    ≡ Some (having group group.claim.runs (group.bits ++ read_marks.filling)) =
    ap (λ (lines : List (List ℕ)). with_lines lines (Some begun)) parted
    ∙ claims_read group [] group.claim.runs (marks ++ more) can.claims
    ∙ read_marks.read
    ∙ ends_here more (Some (having group group.claim.runs (group.bits ++ read_marks.filling))) ends
    in
    let rest : groups_in ((claims ++ marks) ++ more) ≡ groups_in more =
    ap groups_in parted
    ∙ passed claims (marks ++ more) (claims_begin_none group.claim.runs can.claims)
    ∙ passed marks more (marks_begin_none (length group.bits) group.bits)
    in
    let head : groups_in (cert_of group ∷ ((claims ++ marks) ++ more))
    ≡ with_lines ((claims ++ marks) ++ more) (Some begun) ∷ groups_in ((claims ++ marks) ++ more) =
    written_turns_at (cert_of group) ((claims ++ marks) ++ more) (Some begun) cert.begins (ap group_begun cert.reads)
    in
    record {
      first = Some (having group group.claim.runs (group.bits ++ read_marks.filling));
      again = record { filling = read_marks.filling; fills = read_marks.fills; is = refl };
      read = head ∙ (λ i. whole i ∷ rest i);
    }

-- the lines of some groups
pub lines_of_groups : List Group → List (List ℕ)
lines_of_groups groups = flat_map lines_of_group groups

groups_begin : (groups : List Group) → AllByRecursion CanBeWritten groups → BeginAnew (lines_of_groups groups)
unfolding lines_of_groups lines_of_group cert_of
groups_begin [] all = tt
groups_begin (group ∷ groups) all =
    subst BeginAnew (sym (flat_map-cons lines_of_group group groups))
    (cert_line group.round group.company group.claim.revenue all.0.cert).begins

groups_read : (groups : List Group) → AllByRecursion CanBeWritten groups
    → AreReadAgain groups (groups_in (lines_of_groups groups))
unfolding lines_of_groups
groups_read [] all = tt
groups_read (group ∷ groups) all =
    let one = group_read group (lines_of_groups groups) all.0 (groups_begin groups all.1) in
    subst (AreReadAgain (group ∷ groups)) (sym (ap groups_in (flat_map-cons lines_of_group group groups) ∙ one.read))
    (one.again, groups_read groups all.1)

-- the text of a group is its lines
claims_written : (runs : List ClaimedRun) → AllByRecursion CanBeClaimed runs
    → IsWritten (flat_map claim_line runs) (claims_of runs)
unfolding claims_of
claims_written [] all = nothing_written
claims_written (claimed ∷ runs) all =
    let text : List ℕ = spelling_of (Claim claimed.kind claimed.run) in
    subst (λ (written : List ℕ). IsWritten written (text ∷ claims_of runs))
    (sym (flat_map-cons claim_line claimed runs))
    (both_written (claim_line claimed) (flat_map claim_line runs) (text ∷ []) (claims_of runs)
    (line_written text (claim_line_is claimed all.0).printable) (claims_written runs all.1))

marks_written : (count : ℕ) (bits : List Bool) → IsWritten (marks_lines_within count bits) (marks_within count bits)
unfolding marks_within
marks_written zero bits = nothing_written
marks_written (suc count) [] = nothing_written
marks_written (suc count) (bit ∷ bits) =
    let text : List ℕ = marks_of (digits_of (take 4000 (bit ∷ bits))) in
    both_written (text ++ 10 ∷ []) (marks_lines_within count (drop 4000 (bit ∷ bits))) (text ∷ [])
    (marks_within count (drop 4000 (bit ∷ bits)))
    (line_written text (first_line_of bit bits).printable) (marks_written count (drop 4000 (bit ∷ bits)))

group_written : (group : Group) → CanBeWritten group → IsWritten (group_text group) (lines_of_group group)
unfolding lines_of_group cert_of
group_written group can =
    let cert = cert_line group.round group.company group.claim.revenue can.cert in
    let head : List ℕ = order_line (Cert group.round group.company group.claim.revenue) in
    both_written (head ++ flat_map claim_line group.claim.runs) (marks_lines group.bits)
    (cert_of group ∷ claims_of group.claim.runs) (marks_within (length group.bits) group.bits)
    (both_written head (flat_map claim_line group.claim.runs) (cert_of group ∷ []) (claims_of group.claim.runs)
    (line_written (cert_of group) cert.printable) (claims_written group.claim.runs can.claims))
    (marks_written (length group.bits) group.bits)

groups_written : (groups : List Group) → AllByRecursion CanBeWritten groups
    → AllByRecursion (λ group. IsWritten (group_text group) (lines_of_group group)) groups
groups_written [] all = tt
groups_written (group ∷ groups) all = (group_written group all.0, groups_written groups all.1)

-- the lines of a text of certificates
pub certificates_lines : (groups : List Group) → AllByRecursion CanBeWritten groups
    → lines_of (certificates_text groups) ≡ spelling_of Certs ∷ lines_of_groups groups
unfolding lines_of_groups
certificates_lines groups all =
    lines_written (certificates_text groups) (spelling_of Certs ∷ flat_map lines_of_group groups)
    (both_written (order_line Certs) (flat_map group_text groups) (spelling_of Certs ∷ [])
    (flat_map lines_of_group groups)
    (line_written (spelling_of Certs) refl) (all_written group_text lines_of_group groups (groups_written groups all)))

head_begins_none : begins_group (spelling_of Certs) ≡ false
unfolding begins_group
head_begins_none = refl

pub reads_back : ReadsBack
unfolding groups_of
reads_back groups all =
    subst (AreReadAgain groups)
    (sym (ap groups_in (certificates_lines groups all)
    ∙ passed (spelling_of Certs ∷ []) (lines_of_groups groups) (head_begins_none, tt)))
    (groups_read groups all)

-- no line divides
abbrev NoneDivide : List (List ℕ) → Type 0
NoneDivide lines = AllByRecursion (λ line. is_divider line ≡ false) lines

-- a line divides by what is read of it
divides_by : (line : List ℕ) (order : Order) → cert_reading_of line ≡ Ok order → is_divider line ≡ says_certs (Ok order)
unfolding is_divider
divides_by line order reads = ap says_certs reads

both_divide_none : (lines more : List (List ℕ)) → NoneDivide lines → NoneDivide more → NoneDivide (lines ++ more)
both_divide_none [] more first second = second
both_divide_none (line ∷ lines) more first second = (first.0, both_divide_none lines more first.1 second)

claims_divide_none : (runs : List ClaimedRun) → AllByRecursion CanBeClaimed runs → NoneDivide (claims_of runs)
unfolding claims_of
claims_divide_none [] all = tt
claims_divide_none (claimed ∷ runs) all = (
  divides_by (spelling_of (Claim claimed.kind claimed.run)) (Claim claimed.kind claimed.run)
      (claim_line_is claimed all.0).reads,
  claims_divide_none runs all.1,
)

marks_divide_none : (count : ℕ) (bits : List Bool) → NoneDivide (marks_within count bits)
unfolding marks_within
marks_divide_none zero bits = tt
marks_divide_none (suc count) [] = tt
marks_divide_none (suc count) (bit ∷ bits) = (
  divides_by (marks_of (digits_of (take 4000 (bit ∷ bits)))) Marks (first_line_of bit bits).reads,
  marks_divide_none count (drop 4000 (bit ∷ bits)),
)

group_divides_none : (group : Group) → CanBeWritten group → NoneDivide (lines_of_group group)
unfolding lines_of_group cert_of
group_divides_none group can =
    both_divide_none (cert_of group ∷ claims_of group.claim.runs) (marks_within (length group.bits) group.bits) (
      divides_by (cert_of group) (Cert group.round group.company group.claim.revenue)
          (cert_line group.round group.company group.claim.revenue can.cert).reads,
      claims_divide_none group.claim.runs can.claims,
    )
    (marks_divide_none (length group.bits) group.bits)

groups_divide_none : (groups : List Group) → AllByRecursion CanBeWritten groups → NoneDivide (lines_of_groups groups)
unfolding lines_of_groups
groups_divide_none [] all = tt
groups_divide_none (group ∷ groups) all =
    subst NoneDivide (sym (flat_map-cons lines_of_group group groups))
    (both_divide_none (lines_of_group group) (lines_of_groups groups) (group_divides_none group all.0)
    (groups_divide_none groups all.1))

-- a text of certificates begins with the one line that divides
pub begins_alone : (groups : List Group) → AllByRecursion CanBeWritten groups → BeginsAlone (certificates_text groups)
begins_alone groups all =
    let reads : cert_reading_of (spelling_of Certs) ≡ Ok Certs =
    spelling_read certificate cert_forms rows_of_certificates (omega arith) Certs (tt, tt, (0, omega arith, refl)) in
    record {
      first = spelling_of Certs;
      others = lines_of_groups groups;
      lines = certificates_lines groups all;
      divides = divides_by (spelling_of Certs) Certs reads;
      alone = groups_divide_none groups all;
    }
