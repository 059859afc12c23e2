-- A file has at most one game, since a round has at most one outcome. It has one if it is not
-- refused: each round leaves fewer places in the order of rounds, so play reaches an end.
use Rattle.std.proofs.Common.{◌≡◌, ℕ, zero, suc, List, true, false, refl, sym, ap, subst, ◌∙◌, ◌⊎◌}
use Rattle.std.proofs.Common.{◌+◌, ◌<◌, length, inl, inr, arith}
use Rattle.std.proofs.lemmas.Bool.{cases_Bool, true≢false}
use Rattle.totals.specs.LookBack.{Game}
use Rattle.privates.specs.Opening.{IsOpeningRound}
use Rattle.rounds.proofs.Coming.{comes_once}
use Rattle.rounds.specs.OperatingRound.{OneOperatingRound}
use Rattle.rounds.specs.Play.{AreRounds, Between, IsPlayed, IsRound, IsToPlay, OneGame, before_play}
use Rattle.rounds.specs.Play.{coming, goes_on, in_set_before, Plays, SomeGame}
use Rattle.rounds.specs.declared.following.Next.{Next}
use Rattle.stock_round.specs.StockRound.{IsStockRound}
use Rattle.tables.specs.declared.round.Round.{Round}
use Rattle.tables.specs.declared.round.Round.TheVariants.{Opening, Stock, Operating}
use Rattle.privates.specs.Opening as opening
use Rattle.rounds.proofs.Forward.{fewer_to_come}
use Rattle.rounds.proofs.InSet.{IsNextInSet, first_is_in_set, round_in_set}
use Rattle.rounds.specs.OperatingRound as operating
use Rattle.rounds.specs.Sequence.{places_to_come}
use Rattle.rounds.specs.declared.following.Next.TheVariants as next
use Rattle.sheets.specs.File.{all_posted, players_of}
use Rattle.sheets.specs.Laws.{SheetsAreNumbered, ThreeToSixPlay}
use Rattle.stock_round.specs.StockRound as stock

-- an opening round has at most one outcome
abbrev pub OneOpeningRound : Type 0
OneOpeningRound = (file : List ℕ) (round : Round) (old a b : Game) → IsOpeningRound file round old a
    → IsOpeningRound file round old b → a ≡ b

-- nor has a stock round a second
abbrev pub OneStockRound : Type 0
OneStockRound = (file : List ℕ) (round : Round) (old a b : Game) → IsStockRound file round old a
    → IsStockRound file round old b → a ≡ b

-- where a round is to be played, play goes on
pub on : (file : List ℕ) (from : Between) (round : Round) → IsToPlay file from.next round → goes_on
    file from.next ≡ true
on file from round is_next = ap (goes_on file) is_next.comes ∙ is_next.posted

-- so a round that was played could be
pub was_on : (file : List ℕ) (here there : Between) → IsRound file here there → goes_on file here.next ≡ true
was_on file here there round = ap (goes_on file) round.comes ∙ round.posted

-- of some rounds the first, and the others
first_round : (file : List ℕ) (n : ℕ) (old new : Between) → AreRounds file (suc n) old new →
    (mid : Between) × IsRound file old mid × AreRounds file n mid new
first_round file zero old new rounds =
    (new, subst (λ (at : Between). IsRound file at new) (sym rounds.1) rounds.2, refl)
first_round file (suc n) old new rounds =
    let first = first_round file n old rounds.0 rounds.1 in (
      first.0,
      first.1,
      (
        rounds.0,
        first.2,
        rounds.2,
      ),
    )

-- where play cannot go on, it stays
pub stopped_stays : (file : List ℕ) (n : ℕ) (old new : Between) → goes_on file old.next ≡ false →
    AreRounds file n old new → old ≡ new
stopped_stays file zero old new stopped rounds = rounds
stopped_stays file (suc n) old new stopped rounds =
    let first = first_round file n old new rounds in
    absurd (true≢false (sym (was_on file old first.0 first.1) ∙ stopped))

module _ (one_opening : OneOpeningRound) (one_stock : OneStockRound) (one_operating : OneOperatingRound)
    (file : List ℕ) where
  -- so has a round of each kind
  played_once : (round : Round) (old a b : Game) → IsPlayed file round old a → IsPlayed file round old b → a ≡ b
  played_once (Opening number) old a b first second = one_opening file (Opening number) old a b first second
  played_once (Stock set) old a b first second = one_stock file (Stock set) old a b first second
  played_once (Operating set number) old a b first second =
      one_operating file (Operating set number) old a b first second

  -- two games between rounds are the same if their parts are
  between_same : (a b : Between) → a.game ≡ b.game → a.in_set ≡ b.in_set → a.next ≡ b.next → a ≡ b
  between_same a b game in_set next = λ i. record { game = game i; in_set = in_set i; next = next i }

  -- a round leads to one place
  round_once : (old a b : Between) → IsRound file old a → IsRound file old b → a ≡ b
  round_once old a b first second =
      let same : first.round ≡ second.round = comes_once first.round second.round (sym first.comes ∙ second.comes) in
      let again : IsPlayed file first.round old.game b.game =
      subst (λ (r : Round). IsPlayed file r old.game b.game) (sym same) second.played in
      let game : a.game ≡ b.game = played_once first.round old.game a.game b.game first.played again in
      let next : a.next ≡ b.next = cc in
      let in_set : a.in_set ≡ b.in_set = cc in
      between_same a b game in_set next

  -- one round from a place on the way to where play cannot go on leads on on that way
  on_from : (n : ℕ) (old there last : Between) → IsRound file old there → AreRounds file n old
      last →
      goes_on file last.next ≡ false → (later : ℕ) × AreRounds file later there last
  on_from zero old there last round same stopped =
      let on = was_on file old there round in
      absurd (true≢false (sym on ∙ (ap (λ (at : Between). goes_on file at.next) same ∙ stopped)))
  on_from (suc n) old there last round rounds stopped =
      let first = first_round file n old last rounds in (
        n,
        subst (λ (at : Between). AreRounds file n at last) (round_once old first.0 there first.1
            round) first.2,
      )

  -- so do this many
  pub on_the_way : (n all : ℕ) (old there last : Between) → AreRounds file n old there → AreRounds
      file all old last →
      goes_on file last.next ≡ false → (later : ℕ) × AreRounds file later there last
  on_the_way zero all old there last reached rounds stopped =
      (all, subst (λ (at : Between). AreRounds file all at last) reached rounds)
  on_the_way (suc n) all old there last reached rounds stopped =
      let before = on_the_way n all old reached.0 last reached.1 rounds stopped in
      on_from before.0 reached.0 there last reached.2 before.1 stopped

-- a file has at most one game
pub game_once : OneOpeningRound → OneStockRound → OneOperatingRound → OneGame
game_once one_opening one_stock one_operating file a b first second =
    let on = on_the_way one_opening one_stock one_operating file first.rounds second.rounds
    (before_play file) a b
    first.reached second.reached second.stopped in
    stopped_stays file on.0 a b first.stopped on.1

-- each opening round ends
abbrev pub EachOpeningEnds : Type 0
EachOpeningEnds = (file : List ℕ) (round : Round) (old : Game) → opening.EndsSoon file round old

-- so does each stock round
abbrev pub EachStockRoundEnds : Type 0
EachStockRoundEnds = (file : List ℕ) (round : Round) (old : Game) → stock.EndsSoon file round old

-- and each operating round
abbrev pub EachOperatingRoundEnds : Type 0
EachOperatingRoundEnds = (file : List ℕ) (round : Round) (old : Game) → operating.EndsSoon file round old

-- a round comes next for which all have posted, or play stops
goes_or_stops : (file : List ℕ) (upcoming : Next) →
    ((round : Round) × (upcoming ≡ next.Round round) × (all_posted file round ≡ true)) ⊎ (goes_on file upcoming ≡ false)
goes_or_stops file (next.Round round) =
    elim (cases_Bool (all_posted file round)) [
      | inl posted ↦ inl (round, refl, posted)
      | inr stopped ↦ inr stopped
    ]
goes_or_stops file next.Ended = inr refl

module _ (opening_ends : EachOpeningEnds) (stock_ends : EachStockRoundEnds) (operating_ends : EachOperatingRoundEnds)
    (file : List ℕ) where
  -- a round that is played ends, with as many seats
  played_ends : (round : Round) (old : Game) → (new : Game) × IsPlayed file round old new × (new.seats ≡ old.seats)
  played_ends (Opening number) old =
      let played = opening_ends file (Opening number) old in
      (played.new, played.played, ap (λ (game : Game). game.seats) played.played.after)
  played_ends (Stock set) old =
      let played = stock_ends file (Stock set) old in
      (played.new, played.played, ap (λ (game : Game). game.seats) played.played.after)
  played_ends (Operating set number) old =
      let played = operating_ends file (Operating set number) old in
      (played.new, played.played, ap (λ (game : Game). game.seats) played.played.after)

  -- what can be played is played one round further
  one_more : (old : Between) (round : Round) → old.next ≡ next.Round round → all_posted file round ≡ true
      → (new : Between) × IsRound file old new
  one_more old round comes posted =
      let played = played_ends round old.game in
      let upcoming : Next = coming round old.in_set played.0.events in (
        record { game = played.0; in_set = in_set_before upcoming played.0.events old.in_set; next = upcoming },
        record {
          round = round;
          comes = comes;
          posted = posted;
          played = played.1;
          next_then = refl;
          in_set_then =
              refl;
        },
      )

  -- after this many rounds, and with fewer places left than this, play reaches an end
  plays_within : SheetsAreNumbered → (bound done : ℕ) (old : Between) → 0 < length (players_of file) →
      IsNextInSet old → AreRounds file done (before_play file) old →
      places_to_come old.next < bound → (last : Between) × Plays file last
  plays_within numbered zero done old some within_set rounds few = absurd (omega arith)
  plays_within numbered (suc bound) done old some within_set rounds few =
      elim (goes_or_stops file old.next) [
        | inl goes ↦
            let new = one_more old goes.0 goes.1 goes.2 in
            let fewer = fewer_to_come numbered file old new.0 some within_set new.1 in
            plays_within numbered bound (suc done) new.0 some (round_in_set file old new.0 within_set new.1)
            (old, rounds, new.1) (omega (arith, few, fewer))
        | inr stopped ↦ (old, record { rounds = done; reached = rounds; stopped = stopped })
      ]

-- a file that is not refused has a game
pub some_game_accepted : SheetsAreNumbered → ThreeToSixPlay → EachOpeningEnds → EachStockRoundEnds
    → EachOperatingRoundEnds → SomeGame
some_game_accepted numbered players opening_ends stock_ends operating_ends file accepted =
    let three = (players file accepted).0 in
    plays_within opening_ends stock_ends operating_ends file numbered (places_to_come (before_play file).next + 1)
    zero (before_play file) (omega arith) (first_is_in_set file) refl (omega arith)
