-- A list of events grows, and its new events stand aside. They begin no round and no phase, lay no
-- tile, place no token, move no train, sell nothing to a company and are no company's turn. So the
-- list says the same of the map, of trains, and of who has operated as before. Those of stock
-- rounds, and of operating rounds before and after the turns of companies, also say nothing of
-- bids, and name no owner of a private.
use Rattle.std.proofs.Common.{◌≡◌, ℕ, Bool, true, false, ◌&&◌, not, if◌then◌else◌, List}
use Rattle.std.proofs.Common.{[], ◌∷◌, ◌++◌, Option, Some, None, is_none, refl, sym, subst, ap, ◌∙◌}
use Rattle.std.proofs.Common.{arith}
use Rattle.std.proofs.lemmas.Bool.{and_parts}
use Rattle.std.proofs.lemmas.List.{append_assoc, append-nil}
use Rattle.std.proofs.lemmas.List.Folds.{list_all-append}
use Rattle.std.specs.List.{list_all}
use Rattle.events.specs.Event.{bidding_of, operated_by, ownership_of, phase_set, round_begun_by, tile_laid}
use Rattle.events.specs.Event.{token_placed, train_moved}
use Rattle.events.specs.declared.event.Event.{Event}
use Rattle.events.specs.declared.event.Event.TheVariants as event
use Rattle.events.specs.declared.event.Holder.{Holder}
use Rattle.totals.specs.LookBack.{owner_of}
use Rattle.history.specs.Record.{after_revenues, breaks, paid_to_owner, with_broken}
use Rattle.purchases.specs.PrivateLaws.{names_owner}
use Rattle.purchases.specs.SaleLaws.{sells_to_company}
use Rattle.rounds.specs.PlainLines.{is_plain}
use Rattle.tables.specs.Roster.{revenue_of}
use Rattle.tables.specs.declared.roster.Private.{Private}
use Rattle.tables.specs.declared.seat.Seat.{Seat}

-- an event stands aside
abbrev pub is_aside : Event → Bool
is_aside event =
    is_none (round_begun_by event)
    && (is_none (tile_laid event)
    && (is_none (token_placed event)
    && (is_none (operated_by event)
    && (is_none (phase_set event) && (is_none (train_moved event) && not (sells_to_company event))))))

-- and it says nothing of bids, and names no owner of a private
abbrev pub is_still : Event → Bool
is_still event = is_aside event && (is_none (bidding_of event) && not (names_owner (ownership_of event)))

-- the list grows by events that pass a test
pub record GrowsBy (test : Event → Bool) (old new : List Event) : Type 0 where
  pub more : List Event
  pub longer : new ≡ old ++ more
  pub aside : list_all test more ≡ true

-- the list grows, and what is new stands aside, or is still
abbrev pub Grows : List Event → List Event → Type 0
Grows old new = GrowsBy is_aside old new

abbrev pub GrowsStill : List Event → List Event → Type 0
GrowsStill old new = GrowsBy is_still old new

-- an event passes a test, and is plain
abbrev pub and_plain : (Event → Bool) → Event → Bool
and_plain test event = test event && is_plain event

-- the list grows, and what is new passes a test and is plain
abbrev pub GrowsPlainly : (Event → Bool) → List Event → List Event → Type 0
GrowsPlainly test old new = GrowsBy (and_plain test) old new

-- what grows by events that pass one test grows by events that pass another
pass_too : (test other : Event → Bool) → ((event : Event) → test event ≡ true → other event ≡ true) →
    (more : List Event) → list_all test more ≡ true → list_all other more ≡ true
pass_too test other each [] all = refl
pass_too test other each (event ∷ more) all =
    let parts = and_parts (test event) (list_all test more) all in
    ap (λ (b : Bool). b && list_all other more) (each event parts.0) ∙ pass_too test other each more parts.1

grows_too : (test other : Event → Bool) → ((event : Event) → test event ≡ true → other event ≡
    true) →
    {old new : List Event} → GrowsBy test old new → GrowsBy other old new
grows_too test other each grows =
    record { more = grows.more; longer = grows.longer; aside = pass_too test other each grows.more grows.aside }

-- what is still stands aside
pub still_is_aside : {old new : List Event} → GrowsStill old new → Grows old new
still_is_aside = grows_too is_still is_aside (λ event still. (and_parts (is_aside event) _ still).0)

-- what passes a test and is plain passes the test, and is plain
pub passes_test : (test : Event → Bool) {old new : List Event} → GrowsPlainly test old new → GrowsBy
    test old new
passes_test test = grows_too (and_plain test) test (λ event both. (and_parts (test event)
    (is_plain event) both).0)

pub passes_plain : (test : Event → Bool) {old new : List Event} → GrowsPlainly test old new →
    GrowsBy is_plain old new
passes_plain test = grows_too (and_plain test) is_plain (λ event both. (and_parts (test event)
    (is_plain event) both).1)

-- what is still and plain stands aside
pub still_and_plain_is_aside : (event : Event) → and_plain is_still event ≡ true → is_aside event ≡
    true
still_and_plain_is_aside event both = (and_parts (is_aside event) _ (and_parts (is_still event) _
    both).0).0

-- a list that stays as it is
pub stays : {test : Event → Bool} {events : List Event} → GrowsBy test events events
stays {events = events} = record { more = []; longer = sym (append-nil events); aside = refl }

-- one growth after another
infixr 20 ◌⨾◌
pub ◌⨾◌ : {test : Event → Bool} {a b c : List Event} → GrowsBy test a b → GrowsBy test b c → GrowsBy
    test a c
◌⨾◌ {test} {a} first second =
    record {
      more = first.more ++ second.more;
      longer = second.longer ∙ ap (λ (list : List Event). list ++ second.more) first.longer
          ∙ append_assoc a first.more second.more;
      aside = list_all-append test first.more second.more
          ∙ ap (λ (b : Bool). b && list_all test second.more) first.aside ∙ second.aside;
    }

-- by each of two cases
pub in_either : {test : Event → Bool} {old one other : List Event} (b : Bool) → GrowsBy test old
    one →
    GrowsBy test old other → GrowsBy test old (if b then one else other)
in_either true first second = first
in_either false first second = second

-- by one event that passes the test
pub by_one_event : {test : Event → Bool} (events : List Event) (event : Event) → test event ≡ true →
    GrowsBy test events (events ++ event ∷ [])
by_one_event events event aside =
    record { more = event ∷ []; longer = refl; aside = ap (λ (b : Bool). b && true) aside }

-- what leads from a list to itself, on over another, and over each event that passes a test leads
-- over a list that grows by those
module _ (test : Event → Bool) (R : List Event → List Event → Type 0)
    (same : (events : List Event) → R events events)
    (both : (a b c : List Event) → R a b → R b c → R a c)
    (each : (events : List Event) (event : Event) → test event ≡ true → R events (events ++ event ∷
    [])) where
  over_more : (events more : List Event) → list_all test more ≡ true → R events (events ++ more)
  over_more events [] all = subst (R events) (sym (append-nil events)) (same events)
  over_more events (event ∷ more) all =
      let parts = and_parts (test event) (list_all test more) all in
      let next : List Event = events ++ event ∷ [] in
      subst (R events) (append_assoc events (event ∷ []) more)
      (both events next (next ++ more) (each events event parts.0) (over_more next more parts.1))

  pub over_growth : (old new : List Event) → GrowsBy test old new → R old new
  over_growth old new grows = subst (R old) (sym grows.longer) (over_more old grows.more
      grows.aside)

-- by BROKEN, where the bank breaks
pub broken_grows : (seats : ℕ) (events : List Event) → GrowsPlainly is_still events (with_broken seats events)
broken_grows seats events = in_either (breaks seats events) (by_one_event events event.Broken refl)
    stays

-- by a revenue
owner_grows : (seats : ℕ) (events : List Event) (private : Private) (owner : Option Holder) →
    GrowsPlainly is_still events (paid_to_owner seats events private owner)
owner_grows seats events private None = stays
owner_grows seats events private (Some owner) =
    by_one_event events (event.Revenue private owner (revenue_of private)) refl ⨾ broken_grows seats
    _

-- by the revenues of some privates
pub revenues_grow : (seats : ℕ) (events : List Event) (paying : List Private) →
    GrowsPlainly is_still events (after_revenues seats events paying)
revenues_grow seats events [] = stays
revenues_grow seats events (private ∷ others) =
    let owner = owner_of events private in
    owner_grows seats events private owner ⨾ revenues_grow seats (paid_to_owner seats events private
    owner) others

-- a count of lines that were left stands aside
pub count_aside : (seat : Seat) (count : ℕ) (none : Bool) (events : List Event) →
    list_all (and_plain is_still) events ≡ true →
    list_all (and_plain is_still) (if none then events else event.Left seat count ∷ events) ≡ true
count_aside seat count none events aside = grind arith
