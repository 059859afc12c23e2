-- The game can be played on after the consequences of a phase: a train rusts or is discarded that
-- is there.
use Rattle.std.proofs.Common.{SFits, ◌≡◌, ℕ, not, ◌+◌, ◌<◌, ◌≤◌, Bool, true, false, if◌then◌else◌, List, [], ◌∷◌, ◌++◌}
use Rattle.std.proofs.Common.{Option, Some, None, ℤ, pos, negsuc, ◌≤ℤ◌, ◌-ℤ◌, ◌+ℤ◌, refl, sym, ap, subst, ◌∙◌, arith}
use Rattle.std.proofs.Common.{rules}
use Rattle.std.proofs.lemmas.Int.{ints, to_z-of_z}
use mir.Syntax.{w64, w128}
use mir.Val.{of_z, to_z}
use Rattle.std.specs.Int.Signed.{le_z, lt_z}
use Rattle.std.specs.Option.{option_or}
use Rattle.events.specs.Event.{train_owner_place, train_moved}
use Rattle.events.specs.declared.event.Event.{Event}
use Rattle.events.specs.declared.event.Event.TheVariants as event
use Rattle.totals.proofs.EventAtEnd.{trains_at_end}
use Rattle.history.proofs.TrainActs.{discard_sound, rusting_sound}
use Rattle.totals.specs.LookBack.{Game, IsModerate, with_event}
use Rattle.totals.specs.Trains.{one_if, phase_of, at_least_zero, train_count, train_comes, train_goes, trains_held}
use Rattle.purchases.specs.Discard.{first_held, has_train, next_discard}
use Rattle.history.specs.Sound.{IsSound}
use Rattle.purchases.specs.Phases.{excess_of, with_limits_kept, with_one_rusted, with_phase, with_privates_closed}
use Rattle.purchases.specs.Phases.{with_rusted}
use Rattle.purchases.specs.Train.{after_train, begins_phase, traded_count, train_bought}
use Rattle.purchases.specs.declared.train.TrainPurchase.{TrainPurchase}
use Rattle.tables.specs.Train.{kinds, limit_of}
use Rattle.tables.specs.declared.rolling_stock.Kind.{Kind}
use Rattle.tables.specs.declared.rolling_stock.Kind.TheVariants.{Two, Three, Four, Five, Six, Diesel}
use Rattle.tables.specs.declared.roster.Company.{Company}

-- the consequences of a phase, step by step
pub phase_begins : (game recorded rusted closed new : Game) (phase : Kind)
    → recorded ≡ with_event game (event.Phase phase) → rusted ≡ with_rusted phase recorded
    → closed ≡ with_privates_closed phase rusted → new ≡ with_limits_kept closed → new ≡ with_phase game phase
phase_begins game recorded rusted closed new phase is_recorded is_rusted is_closed is_new =
    is_new
    ∙ ap with_limits_kept
    (is_closed ∙ ap (with_privates_closed phase) (is_rusted ∙ ap (with_rusted phase) is_recorded))

-- a train that is the first of a phase
pub train_begins : (game has new : Game) (company : Company) (purchase : TrainPurchase)
    → begins_phase game.events purchase.from purchase.kind ≡ true → has ≡ train_bought game company purchase
    → new ≡ with_phase has purchase.kind → new ≡ after_train game company purchase
train_begins game has new company purchase begins is_bought is_new =
    let after : Game = train_bought game company purchase in
    is_new
    ∙ ap (λ (now : Game). with_phase now purchase.kind) is_bought
    ∙ sym (ap (λ (b : Bool). if b then with_phase after purchase.kind else after) begins)

-- a train that rusts leaves its place
leaves_company : (company : Company) (kind : Kind)
    → train_goes (train_owner_place (Some company)) kind (train_moved (event.Rusted (Some company) kind)) ≡ true
leaves_company company kind = grind arith

leaves : (owner : Option Company) (kind : Kind)
    → train_goes (train_owner_place owner) kind (train_moved (event.Rusted owner kind)) ≡ true
leaves None Two = refl
leaves None Three = refl
leaves None Four = refl
leaves None Five = refl
leaves None Six = refl
leaves None Diesel = refl
leaves (Some company) kind = leaves_company company kind

-- and goes to no other that is in play
comes_nowhere : (owner : Option Company) (kind : Kind)
    → train_comes (train_owner_place owner) kind (train_moved (event.Rusted owner kind)) ≡ false
comes_nowhere None kind = grind arith
comes_nowhere (Some company) kind = grind arith

-- so there is one less
pub one_less : (events : List Event) (owner : Option Company) (kind : Kind)
    → trains_held (events ++ event.Rusted owner kind ∷ []) owner kind ≡ trains_held events owner kind -ℤ pos 1
one_less events owner kind =
    omega (
      arith,
      ints,
      trains_at_end events (event.Rusted owner kind) (train_owner_place owner) kind,
      ap one_if
          (leaves owner kind),
      ap one_if (comes_nowhere owner kind),
    )

-- no limit is more than 4
limit_small : (phase : Kind) → limit_of phase ≤ 4
limit_small Two = omega arith
limit_small Three = omega arith
limit_small Four = omega arith
limit_small Five = omega arith
limit_small Six = omega arith
limit_small Diesel = omega arith

-- what is over a limit fits in the bits that it is counted in
over_kept : (size : ℤ) (limit : ℕ) → IsModerate size → limit ≤ 4
    → to_z w128 (of_z w128 (to_z w128 (of_z w128 size) -ℤ to_z w128 limit)) ≡ size -ℤ pos limit
over_kept size limit within small = omega (arith, ints)

-- at least this many are not fewer
at_least : (a b : ℤ) → le_z a b ≡ not (lt_z b a)
at_least a b = search rules

-- at most one train is traded in
trade_small : (trade_in : Option Kind) → traded_count trade_in ≤ 1
trade_small None = omega arith
trade_small (Some kind) = omega arith

-- this many trains minus those that are traded in are at the limit, counted so
pub at_limit : (sum size : ℤ) (trade_in : Option Kind) (phase : Kind) (traded : ℤ) (limit : ℕ) → sum ≡ size
    → IsModerate size → traded ≡ pos (traded_count trade_in) → limit ≡ limit_of phase
    → le_z (to_z w128 limit) (to_z w128 (of_z w128 (to_z w128 (of_z w128 sum) -ℤ to_z w128 (of_z w128 traded))))
    ≡ not (lt_z (size -ℤ pos (traded_count trade_in)) (pos (limit_of phase)))
at_limit sum size trade_in phase traded limit same within is_traded is_limit =
    let few = trade_small trade_in in
    let small = limit_small phase in
    let left : to_z w128 (of_z w128 (to_z w128 (of_z w128 sum) -ℤ to_z w128 (of_z w128 traded)))
    ≡ size -ℤ pos (traded_count trade_in) = omega (arith, ints) in
    let right : to_z w128 limit ≡ pos (limit_of phase) = omega (arith, ints) in
    rw (left, right) (at_least (pos (limit_of phase)) (size -ℤ pos (traded_count trade_in)))

-- a count of trains is the same in the bits of a sum of money
pub counted_whole : (count sum : ℤ) → SFits w64 count → SFits w128 sum → sum ≡ to_z w64 (of_z w64 count)
    → to_z w128 (of_z w128 sum) ≡ count
counted_whole count sum few fits is = to_z-of_z w128 sum fits ∙ (is ∙ to_z-of_z w64 count few)

-- the trains over the limit of the phase, counted so
pub excess_is : (game : Game) (company : Company) (size : ℤ) (phase : Kind) (limit : ℕ)
    → size ≡ train_count game.events (Some company) → IsModerate size → phase ≡ phase_of game.events
    → limit ≡ limit_of phase → excess_of game company
    ≡ at_least_zero (to_z w128 (of_z w128 (to_z w128 (of_z w128 size) -ℤ to_z w128 limit)))
excess_is game company size phase limit is_size within is_phase is_limit =
    sym (ap at_least_zero
    (over_kept size limit within (subst (λ n. n ≤ 4) (sym is_limit) (limit_small phase))
    ∙ ap (λ (n : ℕ). size -ℤ pos n) (is_limit ∙ ap limit_of is_phase)
    ∙ ap (λ (count : ℤ). count -ℤ pos (limit_of (phase_of game.events))) is_size))

-- fewer than this many
pub below_many : (count : ℤ) (i : ℕ) → i < at_least_zero count → pos (i + 1) ≤ℤ count
below_many (pos n) i below = omega (arith, ints)
below_many (negsuc n) i below = absurd (omega arith)

-- some have rusted, and the others are left
pub record HaveRusted (owner : Option Company) (kind : Kind) (rusted : ℕ) (before now : Game) : Type 0 where
  pub left : pos rusted +ℤ trains_held now.events owner kind ≡ trains_held before.events owner kind
  pub sound : IsSound now

-- none yet
pub none_rusted : (owner : Option Company) (kind : Kind) (game : Game) → IsSound game
    → HaveRusted owner kind 0 game game
none_rusted owner kind game sound = record { left = omega (arith, ints); sound = sound }

-- one more
pub one_rusts : (owner : Option Company) (kind : Kind) (rusted : ℕ) (before now new : Game)
    → rusted < at_least_zero (trains_held before.events owner kind) → new ≡ with_one_rusted owner kind now
    → HaveRusted owner kind rusted before now → HaveRusted owner kind (rusted + 1) before new
one_rusts owner kind rusted before now new below is so_far =
    subst (HaveRusted owner kind (rusted + 1) before) (sym is)
    (let some = below_many (trains_held before.events owner kind) rusted below in
    let left = so_far.left in
    let here : pos 1 ≤ℤ trains_held now.events owner kind = omega (arith, ints) in
    record {
      left = omega (arith, ints, one_less now.events owner kind);
      sound = rusting_sound now owner kind here so_far.sound;
    })

-- the first of which there is a train is one of which there is a train
first_has : (events : List Event) (company : Company) (some : List Kind) (kind : Kind)
    → first_held events company some ≡ Some kind → has_train events company kind ≡ true
first_has events company [] kind first = absurd (cc)
first_has events company (one ∷ others) kind first =
    elim (has_train events company one) as (λ (b : Bool). has_train events company one ≡ b
    → (if b then Some one else first_held events company others) ≡ Some kind
    → has_train events company kind ≡ true) [
      | true ↦ λ has is. let same : one ≡ kind = cc in subst (λ (k : Kind). has_train events company k ≡ true) same has
      | false ↦ λ none is. first_has events company others kind is
    ]
    refl first

-- so is the first of either list
pub first_of_either : (events : List Event) (company : Company) (some others : List Kind) (kind : Kind)
    → option_or (first_held events company some) (first_held events company others) ≡ Some kind
    → has_train events company kind ≡ true
first_of_either events company some others kind first =
    elim (first_held events company some) as (λ (found : Option Kind). first_held events company some ≡ found
    → option_or found (first_held events company others) ≡ Some kind → has_train events company kind ≡ true) [
      | None ↦ λ none is. first_has events company others kind is
      | Some one ↦ λ named is. first_has events company some kind (named ∙ is)
    ]
    refl first

-- a train that is discarded is the company's
pub discarded_sound : (game : Game) (company : Company) (kind : Kind) → next_discard game.events company ≡ Some kind
    → IsSound game → IsSound (with_event game (event.Discarded company kind))
discarded_sound game company kind next sound =
    let has = first_of_either game.events company _ kinds kind next in
    discard_sound game company kind (grind (arith, ints, has)) sound
