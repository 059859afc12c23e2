-- After the purchase of a train by the rules all trains are there until they rust, and none after.
use Rattle.std.proofs.Common.{◌≡◌, ◌⊎◌, ℕ, zero, suc, ◌<◌, ◌≤◌, ◌==◌, inl, inr, Bool, true, false, ◌&&◌, nat_lt}
use Rattle.std.proofs.Common.{if◌then◌else◌, List, Option, Some, None, pos, refl, sym, ap, subst, ◌∙◌, arith}
use Rattle.std.proofs.lemmas.Bool.Decides.{nat_tests}
use Rattle.std.proofs.lemmas.Int.{ints}
use Rattle.std.proofs.lemmas.Bool.{cases_Bool, not-false}
use Rattle.events.specs.Event.{place_of_seller, train_moved}
use Rattle.events.specs.RuleCodes.{code_of_train_rule}
use Rattle.events.specs.declared.event.Event.{Event}
use Rattle.events.specs.declared.event.Event.TheVariants as event
use Rattle.events.specs.declared.event.TrainPlace.TheVariants as place
use Rattle.events.specs.declared.event.TrainSeller.{TrainSeller}
use Rattle.events.specs.declared.event.TrainSeller.TheVariants as seller
use Rattle.events.specs.declared.ruling.TrainRule.TheVariants.{NotOnSale}
use Rattle.totals.proofs.AllTrains.{trains_stay}
use Rattle.history.proofs.Rolling.{sold_at_end, trains_kept}
use Rattle.totals.specs.LookBack.{Game, with_event}
use Rattle.totals.specs.Trains.{IsThere, TrainsAreHeld, one_if, phase_of, train_goes, trains_at, trains_in_play}
use Rattle.totals.specs.Trains.{trains_sold}
use Rattle.purchases.proofs.TrainLemmas.{may_buy}
use Rattle.purchases.proofs.Complete.{Alike, alike_closed, alike_discarded, alike_on, alike_phase, alike_rusted}
use Rattle.purchases.proofs.Complete.{as_many, there_is}
use Rattle.purchases.proofs.Held.{bought_held, purchase_held}
use Rattle.purchases.proofs.Rust.{none_in_play}
use Rattle.purchases.proofs.Sales.{between_sold, earlier_sold, is_bought, one_sold, sold_or_not}
use Rattle.purchases.proofs.TrainSteps.{IsPassedOn, later_begins, of_choice, of_fold, of_kind, of_limits, of_next}
use Rattle.purchases.proofs.TrainSteps.{of_phase, of_privates, of_train_owner, phase_bought, phase_then}
use Rattle.purchases.specs.Phases.{rusts_at, with_kind_rusted, with_kind_rusted_at, with_limits_kept, with_phase}
use Rattle.purchases.specs.Phases.{with_privates_closed, with_rusted}
use Rattle.purchases.specs.Train.{begins_phase, is_on_sale, train_bought, train_judgement, train_purchase_rules}
use Rattle.purchases.specs.TrainLaws.{PurchasesKeepAll, TrainsAreAll, has_come, trains_there}
use Rattle.purchases.specs.declared.train.TrainPurchase.{TrainPurchase}
use Rattle.tables.proofs.Rules.{not_broken}
use Rattle.tables.specs.Train.{kinds, index_of_kind, rusting_of, same_kind, trains_of}
use Rattle.tables.specs.declared.rolling_stock.Kind.{Kind}
use Rattle.tables.specs.declared.rolling_stock.Kind.TheVariants.{Two, Three, Four, Five, Six, Diesel}
use Rattle.tables.specs.declared.roster.Company.{Company}
use Rattle.tables.proofs.TrainKinds.{kind_is}

one_alike : (new kind other : Kind) → rusts_at (rusting_of kind) new ≡ false → (game : Game)
    → Alike kind game (with_kind_rusted_at new game other)
one_alike new kind other stays game =
    elim (cases_Bool (same_kind other kind)) [
      | inl same ↦
          let none : rusts_at (rusting_of other) new ≡ false =
          ap (λ (k : Kind). rusts_at (rusting_of k) new) (kind_is other kind same) ∙ stays in
          subst (λ (b : Bool). Alike kind game (if b then with_kind_rusted game other else game)) (sym none)
          ((alike_on kind).same game)
      | inr apart ↦ of_choice (Alike kind) (rusts_at (rusting_of other) new) game (with_kind_rusted game other) game
          (of_kind (Alike kind) (alike_on kind) other (of_train_owner (Alike kind) (alike_on kind) other
          (alike_rusted kind other apart)) game) ((alike_on kind).same game)
    ]

-- of trains of a kind that do not rust at this one none is removed from the game
rust_alike : (new kind : Kind) → rusts_at (rusting_of kind) new ≡ false → (game : Game)
    → Alike kind game (with_rusted new game)
rust_alike new kind stays game =
    of_fold (Alike kind) (with_kind_rusted_at new) (alike_on kind) (λ now other. one_alike new kind other stays now)
    game kinds

-- so of those that follow a purchase
phase_alike : (game : Game) (phase kind : Kind) → rusts_at (rusting_of kind) phase ≡ false
    → Alike kind game (with_phase game phase)
phase_alike game phase kind stays =
    let on = alike_on kind in
    let begun = with_event game (event.Phase phase) in
    let rusted = with_rusted phase begun in
    let closed = with_privates_closed phase rusted in
    on.both game begun (with_phase game phase) (alike_phase kind game phase)
    (on.both begun rusted (with_limits_kept closed) (rust_alike phase kind stays begun)
    (on.both rusted closed (with_limits_kept closed) (of_privates (Alike kind) on (alike_closed kind) phase rusted)
    (of_limits (Alike kind) on (of_next (Alike kind) on (alike_discarded kind)) closed)))

-- of trains that rust at a phase none is in play then
rusts_now : (game : Game) (phase kind : Kind) → rusts_at (rusting_of kind) phase ≡ true → TrainsAreHeld game.events
    → trains_in_play (with_rusted phase game).events kind ≡ pos 0
rusts_now game phase Two rusts held =
    subst (λ (p : Kind). trains_in_play (with_rusted p game).events Two ≡ pos 0) (kind_is Four phase rusts)
    (none_in_play Two game (λ owner. held.held owner Two))
rusts_now game phase Three rusts held =
    subst (λ (p : Kind). trains_in_play (with_rusted p game).events Three ≡ pos 0) (kind_is Six phase rusts)
    (none_in_play Three game (λ owner. held.held owner Three))
rusts_now game phase Four rusts held =
    subst (λ (p : Kind). trains_in_play (with_rusted p game).events Four ≡ pos 0) (kind_is Diesel phase rusts)
    (none_in_play Four game (λ owner. held.held owner Four))
rusts_now game phase Five rusts held = absurd (cc)
rusts_now game phase Six rusts held = absurd (cc)
rusts_now game phase Diesel rusts held = absurd (cc)

-- as many are sold after a phase has begun
abbrev SameSold : Kind → Game → Game → Type 0
SameSold kind a b = trains_sold b.events kind ≡ trains_sold a.events kind

sold_on : (kind : Kind) → IsPassedOn (SameSold kind)
sold_on kind = record { same = λ game. refl; both = λ a b c one two. two ∙ one }

-- a train that rusts is none that the bank sells
no_sale : (owner : Option Company) (kind other : Kind)
    → train_goes place.Bank kind (train_moved (event.Rusted owner other)) ≡ false
no_sale None kind other = grind arith
no_sale (Some company) kind other = grind arith

sold_rusted : (kind other : Kind) (game : Game) (owner : Option Company)
    → SameSold kind game (with_event game (event.Rusted owner other))
sold_rusted kind other game owner =
    omega (arith, sold_at_end game.events (event.Rusted owner other) kind, ap one_if (no_sale owner kind other))

phase_sold : (game : Game) (phase kind : Kind) → SameSold kind game (with_phase game phase)
phase_sold game phase kind =
    (sold_on kind).both game (with_event game (event.Phase phase)) (with_phase game phase)
    (alike_phase kind game phase).sold
    (of_phase (SameSold kind) (sold_on kind) (λ now private. (alike_closed kind now private).sold)
    (λ other. of_train_owner (SameSold kind) (sold_on kind) other (λ now owner. sold_rusted kind other now owner))
    (of_next (SameSold kind) (sold_on kind) (λ now company old. (alike_discarded kind now company old).sold)) game
    phase)

-- those of a kind that rusts at the phase have all left play then
phase_gone : (game : Game) (phase kind : Kind) → rusts_at (rusting_of kind) phase ≡ true → TrainsAreHeld game.events
    → trains_at (with_phase game phase).events place.OutOfPlay kind ≡ pos (trains_sold game.events kind)
phase_gone game phase kind rusts held =
    let on = alike_on kind in
    let begun = with_event game (event.Phase phase) in
    let rusted = with_rusted phase begun in
    let closed = with_privates_closed phase rusted in
    let rest : Alike kind rusted (with_limits_kept closed) =
    on.both rusted closed (with_limits_kept closed) (of_privates (Alike kind) on (alike_closed kind) phase rusted)
    (of_limits (Alike kind) on (of_next (Alike kind) on (alike_discarded kind)) closed) in
    omega (
      arith,
      ints,
      rest.out,
      rest.sold,
      phase_sold game phase kind,
      rusts_now begun phase kind rusts
          (trains_kept game.events (event.Phase phase) refl held),
      trains_stay rusted.events kind,
    )

-- what is known of a purchase by the rules where all trains are there
record IsFair (game : Game) (buyer : Company) (purchase : TrainPurchase) : Type 0 where
  none : train_judgement game buyer purchase ≡ None
  held : TrainsAreHeld game.events
  all : TrainsAreAll game.events

-- it is on sale
on_sale : (game : Game) (buyer : Company) (purchase : TrainPurchase) → IsFair game buyer purchase
    → is_on_sale game.events purchase.from purchase.kind ≡ true
on_sale game buyer purchase fair = not-false (is_on_sale game.events purchase.from purchase.kind)
    (not_broken code_of_train_rule (train_purchase_rules game buyer purchase) fair.none NotOnSale)

-- at the bank, where the bank sells it
at_bank : (game : Game) (buyer : Company) (purchase : TrainPurchase) (kind : Kind) → IsFair game buyer purchase
    → purchase.from ≡ seller.Bank → purchase.kind ≡ kind → is_on_sale game.events seller.Bank kind ≡ true
at_bank game buyer purchase kind fair bank is =
    ap (λ (k : Kind). is_on_sale game.events seller.Bank k) (sym is)
    ∙ ap (λ (from : TrainSeller). is_on_sale game.events from purchase.kind) (sym bank)
    ∙ on_sale game buyer purchase fair

left_by : (events : List Event) (from : TrainSeller) (of kind : Kind) (number : ℕ) → from ≡ seller.Bank → of ≡ kind
    → IsThere events from of → (trains_of kind).number ≡ Some number → trains_sold events kind < number
left_by events seller.Bank of kind number bank is has there =
    subst (λ (k : Kind). trains_sold events k < number) is
    (has number (ap (λ (k : Kind). (trains_of k).number) is ∙ there))
left_by events seller.BankPool of kind number bank is has there = absurd (cc)
left_by events (seller.Company owner) of kind number bank is has there = absurd (cc)

-- where one of a kind is sold, one was left
had_left : (game : Game) (buyer : Company) (purchase : TrainPurchase) (kind : Kind) (number : ℕ)
    → IsFair game buyer purchase → purchase.from ≡ seller.Bank → purchase.kind ≡ kind
    → (trains_of kind).number ≡ Some number → trains_sold game.events kind < number
had_left game buyer purchase kind number fair bank is there =
    let may = may_buy game buyer purchase fair.none in
    left_by game.events purchase.from purchase.kind kind number bank is may.there there

-- the kinds are sold in their order after a purchase
in_order_then : (game : Game) (buyer : Company) (purchase : TrainPurchase) → IsFair game buyer purchase
    → (earlier later : Kind) (number : ℕ) → (trains_of earlier).number ≡ Some number → index_of_kind earlier < 4
    → index_of_kind earlier < index_of_kind later → 0 < trains_sold (train_bought game buyer purchase).events later
    → trains_sold (train_bought game buyer purchase).events earlier ≡ number
in_order_then game buyer purchase fair earlier later number there numbered before sold =
    let early = (is_bought game buyer purchase earlier).sold in
    let late = (is_bought game buyer purchase later).sold in
    elim (sold_or_not buyer purchase later) [
      | inl no_later ↦
          let was : 0 < trains_sold game.events later = omega arith in
          let whole = fair.all.in_order earlier later number there numbered before was in
          elim (sold_or_not buyer purchase earlier) [
            | inl no_earlier ↦ omega arith
            | inr now ↦ absurd (let fewer = had_left game buyer purchase earlier number fair now.0 now.1.0
                there in omega arith)
          ]
      | inr now ↦
          let whole = earlier_sold game later earlier number (at_bank game buyer purchase later fair now.0 now.1.0)
          fair.held fair.all there numbered before in
          elim (sold_or_not buyer purchase earlier) [
            | inl no_earlier ↦ omega arith
            | inr also ↦ absurd (let same : earlier ≡ later = sym also.1.0 ∙ now.1.0 in let place =
                ap index_of_kind same in omega arith)
          ]
    ]

-- what has not rusted does not rust now
not_now : (phase : Kind) (rusting : Option Kind) → has_come phase rusting ≡ false → rusts_at rusting phase ≡ false
not_now phase None stays = refl
not_now phase (Some kind) stays =
    elim (cases_Bool (same_kind kind phase)) [
      | inl same ↦ absurd (let is = ap index_of_kind (kind_is kind phase same) in let later : index_of_kind phase
          < index_of_kind kind = grind (arith, nat_tests, stays) in omega arith)
      | inr apart ↦ apart
    ]

-- what has rusted and does not rust now rusted at an earlier kind
rusted_before : (phase : Kind) (rusting : Option Kind) → has_come phase rusting ≡ true
    → rusts_at rusting phase ≡ false → (kind : Kind)
    × ((rusting ≡ Some kind) × (index_of_kind kind < index_of_kind phase))
rusted_before phase None come not_now = absurd (cc)
rusted_before phase (Some kind) come not_now = (kind, (refl, grind (arith, nat_tests, come, not_now)))

-- none or some
zero_or_more : (n : ℕ) → (n ≡ 0) ⊎ (0 < n)
zero_or_more zero = inl refl
zero_or_more (suc n) = inr (omega arith)

-- the first of a kind that begins no phase is of none that is later
not_later : (sold phase kind : ℕ) → sold ≡ 0 → (sold == 0 && nat_lt phase kind) ≡ false → kind ≤ phase
not_later sold phase kind none begins = grind (arith, nat_tests, none, begins)

-- a kind that is sold after a purchase by which no phase begins
latest_then : (game : Game) (buyer : Company) (purchase : TrainPurchase)
    → begins_phase game.events purchase.from purchase.kind ≡ false → IsFair game buyer purchase → (kind : Kind)
    → 0 < trains_sold (train_bought game buyer purchase).events kind
    → index_of_kind kind ≤ index_of_kind (phase_of game.events)
latest_then game buyer purchase begins fair kind sold =
    let now = (is_bought game buyer purchase kind).sold in
    elim (sold_or_not buyer purchase kind) [
      | inl none ↦ fair.all.latest kind (omega arith)
      | inr one ↦
          let begins_none : (trains_sold game.events kind == 0
          && nat_lt (index_of_kind (phase_of game.events)) (index_of_kind kind)) ≡ false =
          ap (λ (k : Kind). begins_phase game.events seller.Bank k) (sym one.1.0)
          ∙ ap (λ (from : TrainSeller). begins_phase game.events from purchase.kind) (sym one.0) ∙ begins in
          elim (zero_or_more (trains_sold game.events kind)) [
            | inl nothing ↦ not_later (trains_sold game.events kind) (index_of_kind (phase_of game.events))
                (index_of_kind kind) nothing begins_none
            | inr some ↦ fair.all.latest kind some
          ]
    ]

-- a purchase takes none out of play
there_as_before : (game : Game) (buyer : Company) (purchase : TrainPurchase) (kind : Kind) (number : ℕ)
    → trains_there (train_bought game buyer purchase).events kind number ≡ trains_there game.events kind number
there_as_before game buyer purchase kind number =
    as_many game.events (train_bought game buyer purchase).events kind number (is_bought game buyer purchase kind).out

-- where no phase begins
no_phase : (game : Game) (buyer : Company) (purchase : TrainPurchase)
    → begins_phase game.events purchase.from purchase.kind ≡ false → IsFair game buyer purchase
    → TrainsAreAll (train_bought game buyer purchase).events
no_phase game buyer purchase begins fair =
    let after = train_bought game buyer purchase in
    let phase = phase_bought game buyer purchase in
    let still = there_as_before game buyer purchase in
    record {
      until = λ kind number there stays. still kind number
          ∙ fair.all.until kind number there (ap (λ (p : Kind). has_come p (rusting_of kind)) (sym phase) ∙ stays);
      after = λ kind number there gone. still kind number
          ∙ fair.all.after kind number there (ap (λ (p : Kind). has_come p (rusting_of kind)) (sym phase) ∙ gone);
      begun = λ later. let was = fair.all.begun (subst (λ (p : Kind). 0 < index_of_kind p) phase later) in subst
          (λ (p : Kind). 0 < trains_sold after.events p) (sym phase)
          (omega (arith, (is_bought game buyer purchase (phase_of game.events)).sold));
      latest = λ kind sold. subst (λ (p : Kind). index_of_kind kind ≤ index_of_kind p) (sym phase)
          (latest_then game buyer purchase begins fair kind sold);
      in_order = in_order_then game buyer purchase fair;
    }

-- it had not rusted before where it has not rusted
never_come : (before after : Kind) (rusting : Option Kind) → index_of_kind before ≤ index_of_kind after
    → has_come after rusting ≡ false → has_come before rusting ≡ false
never_come before after None later stays = refl
never_come before after (Some kind) later stays = grind (arith, nat_tests, stays)

-- a phase begins by a sale of the bank
from_bank : (events : List Event) (from : TrainSeller) (kind : Kind) → begins_phase events from kind ≡ true
    → from ≡ seller.Bank
from_bank events seller.Bank kind begins = refl
from_bank events seller.BankPool kind begins = absurd (cc)
from_bank events (seller.Company owner) kind begins = absurd (cc)

one_by : (from : TrainSeller) (kind : Kind) (buyer : Company) → from ≡ seller.Bank
    → one_if (train_goes place.Bank kind (Some (record
    { kind = kind; from = place_of_seller from; to = place.Company buyer }))) ≡ 1
one_by seller.Bank Two buyer bank = refl
one_by seller.Bank Three buyer bank = refl
one_by seller.Bank Four buyer bank = refl
one_by seller.Bank Five buyer bank = refl
one_by seller.Bank Six buyer bank = refl
one_by seller.Bank Diesel buyer bank = refl
one_by seller.BankPool kind buyer bank = absurd (cc)
one_by (seller.Company owner) kind buyer bank = absurd (cc)

-- the bank sells one
one_more : (game : Game) (buyer : Company) (purchase : TrainPurchase) → purchase.from ≡ seller.Bank
    → one_sold buyer purchase purchase.kind ≡ 1
one_more game buyer purchase bank = one_by (purchase.from) purchase.kind buyer bank

-- a kind that rusts is early, and earlier than the one that rusts it
rusts_early : (phase kind : Kind) → rusts_at (rusting_of kind) phase ≡ true
    → (index_of_kind kind < 4) × (index_of_kind kind < index_of_kind phase)
rusts_early phase Two rusts = (omega arith, omega (arith, ap index_of_kind (kind_is Four phase rusts)))
rusts_early phase Three rusts = (omega arith, omega (arith, ap index_of_kind (kind_is Six phase rusts)))
rusts_early phase Four rusts = (omega arith, omega (arith, ap index_of_kind (kind_is Diesel phase rusts)))
rusts_early phase Five rusts = absurd (cc)
rusts_early phase Six rusts = absurd (cc)
rusts_early phase Diesel rusts = absurd (cc)

-- where one does
new_phase : (game : Game) (buyer : Company) (purchase : TrainPurchase)
    → begins_phase game.events purchase.from purchase.kind ≡ true → IsFair game buyer purchase
    → TrainsAreAll (with_phase (train_bought game buyer purchase) purchase.kind).events
new_phase game buyer purchase begins fair =
    let there = train_bought game buyer purchase in
    let kind = purchase.kind in
    let after = with_phase there kind in
    let phase : phase_of after.events ≡ kind = phase_then there kind in
    let later = later_begins game.events purchase.from kind begins in
    let held = bought_held game buyer purchase fair.none fair.held in
    let bank = from_bank game.events purchase.from kind begins in
    record {
      until = λ one number has stays.
          let stays_now : has_come kind (rusting_of one) ≡ false =
          ap (λ (p : Kind). has_come p (rusting_of one)) (sym phase) ∙ stays in
          let alike = phase_alike there kind one (not_now kind (rusting_of one) stays_now) in
          as_many there.events after.events one number alike.out ∙ there_as_before game buyer purchase one number
          ∙ fair.all.until one number has (never_come (phase_of game.events) kind (rusting_of one) (omega arith)
          stays_now);
      after = λ one number has gone.
          let gone_now : has_come kind (rusting_of one) ≡ true =
          ap (λ (p : Kind). has_come p (rusting_of one)) (sym phase) ∙ gone in
          elim (cases_Bool (rusts_at (rusting_of one) kind)) [
            | inl rusts ↦
                let early = rusts_early kind one rusts in
                let whole = in_order_then game buyer purchase fair one kind number has early.0 early.1
                (omega (arith, (is_bought game buyer purchase kind).sold, one_more game buyer purchase bank)) in
                omega (arith, ints, there_is after.events one number, phase_gone there kind one rusts held)
            | inr stays ↦
                let before = rusted_before kind (rusting_of one) gone_now stays in
                let some = between_sold game kind (at_bank game buyer purchase kind fair bank refl) fair.held fair.all
                before.0 before.1.1 in
                let come = fair.all.latest before.0 some in
                as_many there.events after.events one number (phase_alike there kind one stays).out
                ∙ there_as_before game buyer purchase one number
                ∙ fair.all.after one number has (ap (has_come (phase_of game.events)) before.1.0
                ∙ grind (arith, nat_tests, come))
          ];
      begun = λ some. subst (λ (p : Kind). 0 < trains_sold after.events p) (sym phase)
          (omega (
            arith,
            phase_sold there kind kind,
            (is_bought game buyer purchase kind).sold,
            one_more game buyer
                purchase bank,
          ));
      latest = λ one sold. subst (λ (p : Kind). index_of_kind one ≤ index_of_kind p) (sym phase) (
          let was = phase_sold there kind one in
          let now = (is_bought game buyer purchase one).sold in
          elim (sold_or_not buyer purchase one) [
            | inl none ↦ let before = fair.all.latest one (omega arith) in omega arith
            | inr this ↦ omega (arith, ap index_of_kind this.1.0)
          ]);
      in_order = λ earlier other number has numbered before sold.
          let early = phase_sold there kind earlier in
          let late = phase_sold there kind other in
          early ∙ in_order_then game buyer purchase fair earlier other number has numbered before (omega arith);
    }

by_phase : (game : Game) (buyer : Company) (purchase : TrainPurchase) (begins : Bool)
    → begins_phase game.events purchase.from purchase.kind ≡ begins → IsFair game buyer purchase
    → TrainsAreAll (if begins then with_phase (train_bought game buyer purchase) purchase.kind else train_bought game buyer
    purchase).events
by_phase game buyer purchase true begins fair = new_phase game buyer purchase begins fair
by_phase game buyer purchase false begins fair = no_phase game buyer purchase begins fair

-- after each purchase by the rules
pub purchases_keep_all : PurchasesKeepAll
purchases_keep_all game buyer purchase none are_there =
    record {
      held = purchase_held game buyer purchase none are_there.held;
      all = by_phase game buyer purchase (begins_phase game.events purchase.from purchase.kind) refl
          (record { none = none; held = are_there.held; all = are_there.all });
    }
