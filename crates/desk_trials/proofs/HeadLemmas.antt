-- Heads that come one after another.
use Rattle.std.proofs.Common.{◌≡◌, ℕ, ◌+◌, List, [], ◌∷◌, ◌++◌, Option, Bool, true, false, Some, None, map, cond}
use Rattle.std.proofs.Common.{is_some, refl, sym, ap, subst, ◌∙◌, append_assoc, add-one, true≢false}
use Rattle.std.proofs.Common.{zero, suc, ◌<◌, ◌≤◌, arith, inl, inr}
use Rattle.std.proofs.lemmas.Bool.{and_parts, cases_Bool, eqb-true, ltb-false, ltb-true}
use Rattle.std.proofs.lemmas.List.{append-nil, map-append}
use Rattle.std.specs.Map.{lookup}
use Rattle.std.specs.Option.{option_or}
use Rattle.desk_trials.specs.SheetLines.{HeadAt, ReplaceTheLast, complete_by, first_line, head_at}
use Rattle.desk_trials.specs.SheetLines.{last_line, later_of}
use Rattle.desk_trials.specs.declared.check_sheets.Head.{Head}
use Rattle.sheets.specs.File.{sheet_key_at, same_sheet_key}
use Rattle.sheets.specs.declared.sheet_key.SheetKey.{SheetKey}
use Rattle.std.specs.Prelude.{◌==◌, if◌then◌else◌, nat_lt}
use Rattle.totals.proofs.EventAtEnd.{option_or_assoc, option_or_none}
use Rattle.desk_base.proofs.MomentLemmas.{same_round_is}
use Rattle.tables.specs.Round.{same_round}
use Rattle.tables.specs.declared.round.Round.{Round}

-- the line of a head, if it begins this sheet
abbrev pub line_if : SheetKey → HeadAt → Option ℕ
line_if sheet_key head = if same_sheet_key head.sheet_key sheet_key then Some head.line else None

-- the last of some heads and one more
pub last_with_one : (sheet_key : SheetKey) (heads : List HeadAt) (head : HeadAt) →
    last_line sheet_key (heads ++ head ∷ []) ≡ option_or (line_if sheet_key head) (last_line sheet_key heads)
last_with_one sheet_key [] head = sym (option_or_none (line_if sheet_key head))
last_with_one sheet_key (first ∷ heads) head =
    ap (λ o. option_or o (line_if sheet_key first)) (last_with_one sheet_key heads head)
    ∙ option_or_assoc (line_if sheet_key head) (last_line sheet_key heads) (line_if sheet_key first)

same_post_is : (a b : SheetKey) → same_sheet_key a b ≡ true → a ≡ b
same_post_is a b same =
    let parts = and_parts (a.seat.0 == b.seat.0) (same_round a.round b.round) same in
    let seat : a.seat.0 ≡ b.seat.0 = eqb-true a.seat.0 b.seat.0 parts.0 in
    let round : a.round ≡ b.round = same_round_is a.round b.round parts.1 in
    λ i. record { seat = record { 0 = seat i }; round = round i }

-- one more head, which replaces the last before it
pub replaces_with_one : (before : List HeadAt) (heads : List Head) (head : Head) →
    ReplaceTheLast before heads → head.replaces ≡ last_line head.sent (before ++ map head_at heads)
    → ReplaceTheLast before (heads ++ head ∷ [])
replaces_with_one before [] head h e = (rw append-nil at e, tt)
replaces_with_one before (first ∷ heads) head h e =
    (h.0, replaces_with_one (before ++ head_at first ∷ []) heads head h.1 (rw append_assoc e))

-- a choice that is made by a test
pub or_by_test : (test : Bool) (line : ℕ) (other : Option ℕ)
    → cond test (Some line) other ≡ option_or (cond test (Some line) None) other
or_by_test true line other = refl
or_by_test false line other = refl

-- the line of the last head that begins a sheet, once one more head has come
pub last_after_insert : (key sent : SheetKey) (line : ℕ) (old new : List (SheetKey × ℕ)) (heads : List HeadAt) →
    lookup (same_sheet_key sent) new ≡ cond (same_sheet_key key sent) (Some line) (lookup (same_sheet_key sent) old)
    → lookup (same_sheet_key sent) old ≡ last_line sent heads
    → lookup (same_sheet_key sent) new ≡ last_line sent
    (heads ++ record { line = line; sheet_key = key } ∷ [])
last_after_insert key sent line old new heads put kept =
    put ∙ ap (λ o. cond (same_sheet_key key sent) (Some line) o) kept
    ∙ or_by_test (same_sheet_key key sent) line (last_line sent heads)
    ∙ sym (last_with_one sent heads (record { line = line; sheet_key = key }))

-- the first of some heads and one more
first_with_one : (sheet_key : SheetKey) (heads : List HeadAt) (head : HeadAt) →
    first_line sheet_key (heads ++ head ∷ []) ≡ option_or (first_line sheet_key heads) (line_if sheet_key head)
first_with_one sheet_key [] head = refl
first_with_one sheet_key (first ∷ heads) head =
    elim (same_sheet_key first.sheet_key sheet_key) as (λ (test : Bool).
    cond test (Some first.line) (first_line sheet_key (heads ++ head ∷ []))
    ≡ option_or (cond test (Some first.line) (first_line sheet_key heads)) (line_if sheet_key head)) [
      | true ↦ refl
      | false ↦ first_with_one sheet_key heads head
    ]

-- a line behind another choice
some_behind : (found : Option ℕ) (line : ℕ) → is_some (option_or found (Some line)) ≡ true
some_behind None line = refl
some_behind (Some other) line = refl

-- a sheet that has a last head has a first
pub last_as_first : (sheet_key : SheetKey) (heads : List HeadAt)
    → is_some (last_line sheet_key heads) ≡ is_some (first_line sheet_key heads)
last_as_first sheet_key [] = refl
last_as_first sheet_key (first ∷ heads) =
    elim (same_sheet_key first.sheet_key sheet_key) as (λ (test : Bool).
    is_some (option_or (last_line sheet_key heads) (cond test (Some first.line) None))
    ≡ is_some (cond test (Some first.line) (first_line sheet_key heads))) [
      | true ↦ some_behind (last_line sheet_key heads) first.line
      | false ↦ ap is_some (option_or_none (last_line sheet_key heads)) ∙ last_as_first sheet_key heads
    ]

-- a line that is there before another
there_before : (found : Option ℕ) (test : Bool) (line : ℕ) → (test ≡ true → is_some found ≡ true) →
    found ≡ option_or found (cond test (Some line) None)
there_before (Some first) test line there = refl
there_before None true line there = absurd (true≢false (sym (there refl)))
there_before None false line there = refl

-- a line that is the first
none_before : (found : Option ℕ) (test : Bool) (line : ℕ) → (test ≡ true → found ≡ None) →
    cond test (Some line) found ≡ option_or found (cond test (Some line) None)
none_before None test line none = refl
none_before (Some first) true line none = absurd (cc (none refl))
none_before (Some first) false line none = refl

module _ (key sent : SheetKey) (line : ℕ) (heads : List HeadAt) where
  -- where one begins this sheet, the first stays
  pub first_stays : (entries : List (SheetKey × ℕ)) → lookup (same_sheet_key sent) entries
      ≡ first_line sent heads →
      is_some (first_line key heads) ≡ true →
      lookup (same_sheet_key sent) entries ≡ first_line sent
      (heads ++ record { line = line; sheet_key = key } ∷ [])
  first_stays entries kept there =
      kept
      ∙ there_before (first_line sent heads) (same_sheet_key key sent) line
      (λ same. subst (λ (sheet_key : SheetKey). is_some (first_line sheet_key heads) ≡ true)
      (same_post_is key sent same) there)
      ∙ sym (first_with_one sent heads (record { line = line; sheet_key = key }))

  -- where none does, this is the first
  pub first_comes : (old new : List (SheetKey × ℕ)) →
      lookup (same_sheet_key sent) new ≡ cond (same_sheet_key key sent) (Some line) (lookup (same_sheet_key sent) old) →
      lookup (same_sheet_key sent) old ≡ first_line sent heads → first_line key heads ≡ None →
      lookup (same_sheet_key sent) new ≡ first_line sent
      (heads ++ record { line = line; sheet_key = key } ∷ [])
  first_comes old new put kept none =
      put ∙ ap (λ o. cond (same_sheet_key key sent) (Some line) o) kept
      ∙ none_before (first_line sent heads) (same_sheet_key key sent) line
      (λ same. subst (λ (sheet_key : SheetKey). first_line sheet_key heads ≡ None)
      (same_post_is key sent same) none)
      ∙ sym (first_with_one sent heads (record { line = line; sheet_key = key }))

-- the line by which one player more had a sheet
pub complete_next : (seats : ℕ) (round : Round) (heads : List HeadAt) →
    later_of (complete_by seats round heads) (first_line (sheet_key_at seats round) heads)
    ≡ complete_by (seats + 1) round heads
complete_next seats round heads = ap (λ n. complete_by n round heads) (sym (add-one seats))

-- nothing is the later of a line and none
later_of_none : (line : Option ℕ) → later_of line None ≡ None
later_of_none None = refl
later_of_none (Some line) = refl

-- where one of the players had no sheet, there is no line by which each had one
pub incomplete : (seats number : ℕ) (round : Round) (heads : List HeadAt) → number < seats
    → first_line (sheet_key_at number round) heads ≡ None → complete_by seats round heads ≡ None
incomplete zero number round heads below none = absurd (omega (arith, below))
incomplete (suc seats) number round heads below none =
    elim (cases_Bool (nat_lt number seats)) [
      | inl less ↦ rw (incomplete seats number round heads (ltb-true number seats less) none) refl
      | inr not_less ↦
          let least : seats ≤ number = ltb-false number seats not_less in
          let same : number ≡ seats = omega (arith, below, least) in
          ap (later_of (complete_by seats round heads))
          (subst (λ n. first_line (sheet_key_at n round) heads ≡ None) same none)
          ∙ later_of_none (complete_by seats round heads)
    ]

-- the heads that came, once one more has come
pub came_with_one : (heads : List Head) (head : Head)
    → map head_at (heads ++ head ∷ []) ≡ map head_at heads ++ head_at head ∷ []
came_with_one heads head = map-append head_at heads (head ∷ [])

-- the next line that is taken, which may begin a sheet
pub heads_step : (old new head left rest whole : List HeadAt) → old ++ left ≡ whole → left ≡ head ++ rest
    → new ≡ old ++ head → new ++ rest ≡ whole
heads_step old new head left rest whole h e f =
    rw (f, append_assoc) (sym (ap (λ (heads : List HeadAt). old ++ heads) e) ∙ h)

-- no line is left
pub heads_end : (heads left rest whole : List HeadAt) → heads ++ left ≡ whole → left ≡ [] ++ rest → rest ≡ []
    → heads ≡ whole
heads_end heads left rest whole h e none =
    sym (append-nil heads) ∙ sym (ap (λ (more : List HeadAt). heads ++ more) (e ∙ none)) ∙ h
