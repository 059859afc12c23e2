-- Which rounds may still come: from the round that is awaited on, in the order of all rounds; its
-- set has this many operating rounds, each later one at most three; and if the bank is broken, no
-- later set is played.
use Rattle.std.specs.Prelude.{◌≡◌, ◌==◌, ℕ, Bool, true, false, ◌&&◌, ◌||◌, not, nat_le, if◌then◌else◌, List}
use Rattle.rounds.specs.Play.{AreRounds, Between, Played}
use Rattle.rounds.specs.declared.following.Next.TheVariants as next
use Rattle.rounds.specs.declared.game.End.{End}
use Rattle.rounds.specs.declared.game.End.TheVariants.{Awaiting, Bank, Bankrupt}
use Rattle.desk_base.specs.SetNumber.{number_in_set}
use Rattle.desk_base.specs.Stopped.{StoppedAt}
use Rattle.events.specs.declared.event.Event.{Event}
use Rattle.totals.specs.LookBack.{broken_in}
use Rattle.sheets.specs.File.{IsAccepted}
use Rattle.tables.specs.Round.{is_before, operating_most}
use Rattle.tables.specs.declared.round.Round.{Round}
use Rattle.tables.specs.declared.round.Round.TheVariants.{Opening, Stock, Operating}

-- the set of a round; of an opening the first, which follows it
abbrev pub set_of : Round → ℕ
set_of (Opening number) = 1
set_of (Stock set) = set
set_of (Operating set number) = set

-- the round is in this set or an earlier one, or the bank is not broken
abbrev pub is_in_time : ℕ → Bool → ℕ → Bool
is_in_time set broken its = nat_le its set || not broken

-- how many operating rounds a set may have, where another has this many
abbrev pub most_in_set : ℕ → ℕ → ℕ → ℕ
most_in_set set in_set its = if its == set then in_set else operating_most

-- a round that is not before the awaited one may come
abbrev pub may_come : ℕ → ℕ → Bool → Round → Bool
may_come set in_set broken (Opening number) = true
may_come set in_set broken (Stock its) = is_in_time set broken its
may_come set in_set broken (Operating its number) =
    nat_le number (most_in_set set in_set its) && is_in_time set broken its

-- the round may be the awaited one or come after it
abbrev pub may_follow : Round → ℕ → Bool → Round → Bool
may_follow awaited in_set broken round =
    not (is_before round awaited) && may_come (set_of awaited) in_set broken round

-- a round that was not played can still come where play has stopped so after these events
abbrev pub can_come : End → List Event → Round → Bool
can_come (Awaiting awaited) events round =
    may_follow awaited (number_in_set (Awaiting awaited) events) (broken_in events) round
can_come Bank events round = false
can_come Bankrupt events round = false

-- from where the game stopped no rounds lead to this one, whatever sheets a file has for them
abbrev pub NeverComes : Played → Round → Type 0
NeverComes played round =
    (last there : Between) (file : List ℕ) (rounds : ℕ)
    → StoppedAt played last → IsAccepted file → AreRounds file rounds last there → ¬ (there.next ≡ next.Round round)
