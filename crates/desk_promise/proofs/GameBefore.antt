-- A file whose sheets for one round are changed has the same game before that round.
use Rattle.std.proofs.Common.{◌≡◌, ℕ, zero, suc, ◌+◌, ◌<◌, ◌≤◌, Bool, true, false, List, length}
use Rattle.std.proofs.Common.{Option, is_some, refl, sym, ap, subst, ◌∙◌, inl, inr, arith}
use Rattle.std.specs.List.{list_all, range_with_len}
use Rattle.std.proofs.lemmas.Bool.{and_from, cases_Bool, cases_eq, false≢true}
use Rattle.desk_base.proofs.MomentLemmas.{same_round_is}
use Rattle.desk_promise.specs.LineFile.{HasSheets}
use Rattle.rounds.proofs.ReadAlike.{same_before, same_round}
use Rattle.rounds.specs.Begun.{RoundsOnlyAdd}
use Rattle.rounds.specs.Play.{AreRounds, Between, IsPlayed, IsRound, before_play, coming, in_set_before}
use Rattle.rounds.specs.ReadAlike.{ReadAlikeFor, SameSheetsAreReadAlike}
use Rattle.rounds.specs.declared.following.Next.{Next}
use Rattle.rounds.specs.declared.following.Next.TheVariants as next
use Rattle.sheets.specs.File.{all_posted, players_of, sheet_of, version_of}
use Rattle.tables.specs.Round as rounds
use Rattle.tables.specs.declared.round.Round.{Round}
use Rattle.tables.specs.declared.seat.Seat.{Seat}
use Rattle.totals.specs.LookBack.{Game}

-- each seat has a sheet, so all are posted
each_posted : (test : ℕ → Bool) (first count : ℕ) → ((k : ℕ) → first ≤ k → k < first + count → test k ≡ true)
    → list_all test (range_with_len first count) ≡ true
each_posted test first zero each = refl
each_posted test first (suc count) each =
    and_from (test first) (list_all test (range_with_len (first + 1) count)) (each first (omega arith) (omega arith))
    (each_posted test (first + 1) count (λ k from within. each k (omega (arith, from)) (omega (arith, within))))

-- a file has sheets of all players for a round, and those for other rounds are as in another file
pub record IsPosted (file new : List ℕ) (round : Round) : Type 0 where
  pub players : players_of new ≡ players_of file
  pub version : version_of new ≡ version_of file
  pub each : (seat : ℕ) → seat < length (players_of file) → is_some (sheet_of new seat round) ≡ true
  pub elsewhere : (seat : ℕ) (before : Round) → rounds.same_round round before ≡ false
      → sheet_of new seat before ≡ sheet_of file seat before

pub is_posted : (file new : List ℕ) (round : Round) (seat : Seat) (lines : List (List ℕ))
    → HasSheets file new round seat lines → IsPosted file new round
is_posted file new round seat lines has =
    record {
      players = has.players;
      version = has.version;
      each = λ k below. elim (cases_eq k seat.0) [
        | inl same ↦ ap (λ (n : ℕ). is_some (sheet_of new n round)) same
            ∙ ap (λ (sheet : Option (List (List ℕ))). is_some sheet) has.own
        | inr apart ↦ ap (λ (sheet : Option (List (List ℕ))). is_some sheet) (has.others k below apart)
      ];
      elsewhere = has.elsewhere;
    }

module _ (alike : SameSheetsAreReadAlike) (file new : List ℕ) (round : Round) (has : IsPosted file new round) where
  -- the sheets for a round that all have posted are read alike, if this one is awaited
  read_so : all_posted file round ≡ false → (before : Round) → all_posted file before ≡ true → ReadAlikeFor before file new
  read_so awaited before posted =
      elim (cases_Bool (rounds.same_round round before)) [
        | inl same ↦
            absurd (false≢true (sym awaited ∙ ap (all_posted file) (same_round_is round before same) ∙ posted))
        | inr other ↦ alike file new before (sym has.version) (λ seat. sym (has.elsewhere seat before other))
      ]

  -- so the rounds before it are played alike
  pub played_before : all_posted file round ≡ false → (count : ℕ) (there : Between)
      → AreRounds file count (before_play file) there → AreRounds new count (before_play new) there
  played_before awaited zero there played = sym (same_before file new (sym has.players)) ∙ played
  played_before awaited (suc count) there played = (
    played.0,
    played_before awaited count played.0 played.1,
    same_round file new played.0 there (sym has.players) played.2
        (read_so awaited played.2.round played.2.posted),
  )

  -- in the new file all have posted
  pub now_posted : all_posted new round ≡ true
  now_posted =
      each_posted (λ k. is_some (sheet_of new k round)) 0 (length (players_of new))
      (λ k from within. let below : k < length (players_of new) = omega (arith, within) in
      has.each k (subst (λ (players : List (List ℕ)). k < length players) has.players below))

-- the game after one more round
abbrev pub after_round : Round → Between → Game → Between
after_round round old game =
    let upcoming : Next = coming round old.in_set game.events in
    record { game = game; in_set = in_set_before upcoming game.events old.in_set; next = upcoming }

pub one_more : (file : List ℕ) (round : Round) (old : Between) (game : Game) → old.next ≡ next.Round round
    → all_posted file round ≡ true → IsPlayed file round old.game game → IsRound file old (after_round round old game)
one_more file round old game comes posted played =
    record {
      round = round;
      comes = comes;
      posted = posted;
      played = played;
      next_then = refl;
      in_set_then = refl;
    }

-- rounds keep the seats
pub seats_kept : RoundsOnlyAdd → (file : List ℕ) (count : ℕ) (old new : Between) → AreRounds file count old new
    → new.game.seats ≡ old.game.seats
seats_kept adds file zero old new played = ap (λ (there : Between). there.game.seats) (sym played)
seats_kept adds file (suc count) old new played =
    ap (λ (game : Game). game.seats) (adds file played.0 new played.2).added
    ∙ seats_kept adds file count old played.0 played.1
