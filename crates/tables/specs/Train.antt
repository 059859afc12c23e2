-- Trains: for each kind its price, number, reach and what rusts it; and what each phase allows.
use Rattle.std.specs.Prelude.{ℕ, ◌==◌, Bool, List, [], ◌∷◌, Option, Some, None, codes}
use Rattle.tables.specs.declared.rolling_stock.Kind.{Kind}
use Rattle.tables.specs.declared.rolling_stock.Kind.TheVariants.{Two, Three, Four, Five, Six, Diesel}
use Rattle.tables.specs.declared.rolling_stock.Trains.{Trains}

-- the kinds of trains, least first
abbrev pub kinds : List Kind
kinds = Two ∷ Three ∷ Four ∷ Five ∷ Six ∷ Diesel ∷ []

-- the place of a kind among the kinds
abbrev pub index_of_kind : Kind → ℕ
index_of_kind Two = 0
index_of_kind Three = 1
index_of_kind Four = 2
index_of_kind Five = 3
index_of_kind Six = 4
index_of_kind Diesel = 5

-- two kinds are the same
abbrev pub same_kind : Kind → Kind → Bool
same_kind a b = index_of_kind a == index_of_kind b

-- the code of a kind
abbrev pub code_of_kind : Kind → List ℕ
code_of_kind Two = codes "2"
code_of_kind Three = codes "3"
code_of_kind Four = codes "4"
code_of_kind Five = codes "5"
code_of_kind Six = codes "6"
code_of_kind Diesel = codes "D"

-- the price and the number of the trains of a kind; D has no limit
abbrev pub trains_of : Kind → Trains
trains_of Two = record { price = 80; number = Some 6 }
trains_of Three = record { price = 180; number = Some 5 }
trains_of Four = record { price = 300; number = Some 4 }
trains_of Five = record { price = 450; number = Some 3 }
trains_of Six = record { price = 630; number = Some 2 }
trains_of Diesel = record { price = 1100; number = None }

-- the kind whose first train rusts the trains of a kind; 5, 6 and D never rust
abbrev pub rusting_of : Kind → Option Kind
rusting_of Two = Some Four
rusting_of Three = Some Six
rusting_of Four = Some Diesel
rusting_of other = None

-- the most stops that a train of a kind visits in a run; D visits any number
abbrev pub stops_of : Kind → Option ℕ
stops_of Two = Some 2
stops_of Three = Some 3
stops_of Four = Some 4
stops_of Five = Some 5
stops_of Six = Some 6
stops_of Diesel = None

-- the most trains of a company in a phase
abbrev pub limit_of : Kind → ℕ
limit_of Two = 4
limit_of Three = 4
limit_of Four = 3
limit_of other = 2

-- the number of operating rounds of a set that begins in a phase
abbrev pub rounds_in_set_of : Kind → ℕ
rounds_in_set_of Two = 1
rounds_in_set_of Three = 2
rounds_in_set_of Four = 2
rounds_in_set_of other = 3
