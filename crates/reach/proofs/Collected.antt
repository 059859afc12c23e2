-- Marking tokens, stop by stop, and collecting the stops that are marked.
use Rattle.std.proofs.Common.{◌≡◌, ℕ, zero, suc, ◌+◌, ◌*◌, ◌<◌, ◌≤◌, Bool, true, false, Some, None, ◌⊎◌, inl, inr, List}
use Rattle.std.proofs.Common.{[], ◌∷◌, ◌++◌, length, get_or, set, replicate, refl, ap, sym, ◌∙◌, subst, arith}
use Rattle.std.proofs.Common.{get_or-set_same}
use Rattle.std.specs.List.{AllByRecursion}
use Rattle.std.proofs.lemmas.Bool.{cases_eq}
use Rattle.map_tables.specs.Hex.{index_of}
use Rattle.map_tables.specs.Laws.{LieIn}
use Rattle.map_tables.specs.Place.{joined_stop_of, stop_at, stop_index_of}
use Rattle.map_tables.specs.declared.hex.Hex.{Hex}
use Rattle.map_tables.specs.declared.place.Stop.{Stop}
use Rattle.map_tables.specs.declared.place.StopNumber.TheVariants.{First, Second}
use Rattle.map_tables.specs.declared.track.TrackEnd.{TrackEnd}
use Rattle.map_tables.specs.declared.track.TrackEnd.TheVariants.{Side as AtSide, Stop as AtStop}
use Rattle.map_tables.specs.declared.track.Link.{Link}
use Rattle.reach.specs.Lawful.{IsLawful}
use Rattle.reach.specs.Position.{Position, HasToken, IsAmong, links_of}
use Rattle.reach.specs.Reached.{AreSortedBy, stop_order}
use Rattle.reach.specs.Search.{spot_number, IsMarked, IsMarkedStop, IsTokenMarked, IsPushed, AllArrive, AllWait}
use Rattle.reach.specs.Search.{HasAllTokens}
use Rattle.reach.specs.Walk.{spot_at, stop_at_end}
use Rattle.reach.specs.declared.walk.Spot.{Spot}
use Rattle.reach.proofs.Hexes.{same_index}
use Rattle.reach.proofs.Lists.{among_end, among_before, among_cases, all_push, order_push}
use Rattle.reach.proofs.Marking.{marks_set, set_cases, set_keeps, wait_on}
use Rattle.reach.proofs.Spots.{are_one, same_order, order_low, stop_number}
use Rattle.tables.specs.declared.roster.Company.{Company}

-- the spot of a stop
abbrev pub spot_of : Stop → Spot
spot_of stop = spot_at stop.hex (AtStop stop.number)

-- nothing is marked at first
pub none_marked : (n i : ℕ) → get_or (replicate n false) i false ≡ false
none_marked zero i = refl
none_marked (suc n) zero = refl
none_marked (suc n) (suc i) = none_marked n i

-- the stops before a place in the order of the map are marked where they have a token
abbrev pub TokensBefore : Position → Company → List Bool → ℕ → Type 0
TokensBefore position company marks place =
    (stop : Stop) → stop_order stop < place → HasToken position (joined_stop_of stop) company
    → IsMarked marks (spot_of stop)

module _ (position : Position) (company : Company) (old : List Bool) (stop : Stop) (place : ℕ)
    (here : stop_order stop ≡ place) where
  -- walks arrive at a stop with a token
  pub token_arrives : HasToken position (joined_stop_of stop) company → AllArrive position company old
      → (new : List Bool) → new ≡ set old (spot_number (spot_of stop)) true → AllArrive position company new
  token_arrives token arrive new new_is spot is =
      elim (set_cases old (spot_number (spot_of stop)) (spot_number spot)
      (subst (λ marks. IsMarked marks spot) new_is is)) [
        | inl same ↦ inl (joined_stop_of stop, sym (are_one (spot_of stop) spot same).0, token)
        | inr before ↦ arrive spot before
      ]

  -- a stop with a token is marked
  pub token_marked : spot_number (spot_of stop) < length old → TokensBefore position company old place
      → (new : List Bool) → new ≡ set old (spot_number (spot_of stop)) true
      → TokensBefore position company new (place + 1)
  token_marked low tokens new new_is other before token =
      subst (λ marks. IsMarked marks (spot_of other)) (sym new_is)
      (elim (cases_eq (stop_order other) place) [
        | inl same ↦ subst (λ (s : Stop). IsMarked (set old (spot_number (spot_of stop)) true) (spot_of s))
            (same_order stop other (here ∙ sym same))
            (get_or-set_same old (spot_number (spot_of stop)) true false low)
        | inr different ↦ set_keeps old (spot_number (spot_of stop)) (spot_number (spot_of other)) low
            (tokens other (omega arith) token)
      ])

  -- a stop without a token is passed over
  pub token_passed : ¬ HasToken position (joined_stop_of stop) company → TokensBefore position company old place
      → TokensBefore position company old (place + 1)
  token_passed none tokens other before token =
      elim (cases_eq (stop_order other) place) [
        | inl same ↦ absurd (none (subst (λ (s : Stop). HasToken position (joined_stop_of s) company)
            (same_order other stop (same ∙ sym here)) token))
        | inr different ↦ tokens other (omega arith) token
      ]

-- What is so once the stops before a place have been looked at. Walks arrive at all that is marked,
-- the stops with a token are marked, and all that is marked waits.
pub record TokensMarked (position : Position) (company : Company) (marks : List Bool) (waiting : List Spot)
    (place : ℕ) : Type 0 where
  pub arrive : AllArrive position company marks
  pub tokens : TokensBefore position company marks place
  pub wait : AllWait marks waiting

-- and once one more has been
pub token_added : (position : Position) (company : Company) (old : List Bool) (waited : List Spot) (stop : Stop)
    (place : ℕ) → stop_order stop ≡ place → TokensMarked position company old waited place
    → (new : List Bool) (waiting : List Spot) → IsTokenMarked position company stop old waited new waiting
    → TokensMarked position company new waiting (place + 1)
token_added position company old waited stop place here so_far new waiting (inl has) =
    let new_is : new ≡ set old (spot_number (spot_of stop)) true =
    marks_set (spot_of stop) old waited new waiting has.1 in
    record {
      arrive = token_arrives position company old stop place here has.0 so_far.arrive new new_is;
      tokens = token_marked position company old stop place here has.1.low so_far.tokens new new_is;
      wait = wait_on (spot_of stop) old waited new waiting so_far.wait has.1;
    }
token_added position company old waited stop place here so_far new waiting (inr none) =
    subst (λ m. TokensMarked position company m waiting (place + 1)) (sym none.1)
    (subst (λ w. TokensMarked position company old w (place + 1)) (sym none.2)
    (record {
      arrive = so_far.arrive;
      tokens = token_passed position company old stop place here none.0 so_far.tokens;
      wait = so_far.wait;
    }))

-- both stops of a hex
pub tokens_added : (position : Position) (company : Company) (old : List Bool) (waited : List Spot) (hex : Hex)
    (index : ℕ) → index_of hex ≡ index → TokensMarked position company old waited (2 * index)
    → (between : List Bool) (waits : List Spot) → IsTokenMarked position company (stop_at hex First) old waited
    between waits → (new : List Bool) (waiting : List Spot)
    → IsTokenMarked position company (stop_at hex Second) between waits new waiting
    → TokensMarked position company new waiting (2 * (index + 1))
tokens_added position company old waited hex index is so_far between waits first new waiting second =
    subst (λ n. TokensMarked position company new waiting n) (omega arith)
    (token_added position company between waits (stop_at hex Second) (2 * index + 1) (omega (arith, is))
    (token_added position company old waited (stop_at hex First) (2 * index) (omega (arith, is)) so_far between waits
    first)
    new waiting second)

token_at : (position : Position) (company : Company) (marks : List Bool) → TokensBefore position company marks 186
    → (hex : Hex) (end : TrackEnd) (stop : Stop) → stop_at_end hex end ≡ Some stop → HasToken position stop company
    → IsMarked marks (spot_at hex end)
token_at position company marks tokens hex (AtSide side) stop is token =
    absurd (let nowhere : None ≡ Some stop = is in cc)
token_at position company marks tokens hex (AtStop number) stop is token =
    let same : joined_stop_of (stop_at hex number) ≡ stop = cc in
    tokens (stop_at hex number) (order_low (stop_at hex number))
    (subst (λ s. HasToken position s company) (sym same) token)

-- the stops of the whole map
pub all_tokens : (position : Position) (company : Company) (marks : List Bool) (place : ℕ) → 186 ≤ place
    → TokensBefore position company marks place → HasAllTokens position company marks
all_tokens position company marks place all tokens spot stop is token =
    token_at position company marks (λ other low has. tokens other (omega arith) has) spot.hex spot.end stop is token

-- the stops before a place in the order of the map, those that are marked
pub record StopsBefore (marks : List Bool) (stops : List Stop) (place : ℕ) : Type 0 where
  pub in_order : AreSortedBy stop_order stops
  pub before : AllByRecursion (λ stop. stop_order stop < place) stops
  pub named : (stop : Stop) → IsAmong stop stops → IsMarkedStop marks stop
  pub all : (stop : Stop) → stop_order stop < place → joined_stop_of stop ≡ stop → IsMarked marks (spot_of stop)
      → IsAmong stop stops

-- what is under a number is under the next
below_next : (stops : List Stop) (place : ℕ) → AllByRecursion (λ stop. stop_order stop < place) stops
    → AllByRecursion (λ stop. stop_order stop < place + 1) stops
below_next [] place all = tt
below_next (stop ∷ stops) place all = (omega (arith, all.0), below_next stops place all.1)

-- what is under a number is under that of a stop there
below_stop : (stops : List Stop) (place : ℕ) (here : Stop) → stop_order here ≡ place
    → AllByRecursion (λ stop. stop_order stop < place) stops
    → AllByRecursion (λ stop. stop_order stop < stop_order here) stops
below_stop [] place here is all = tt
below_stop (stop ∷ stops) place here is all = (omega (arith, all.0), below_stop stops place here is all.1)

module _ (marks : List Bool) (stops : List Stop) (stop : Stop) (place : ℕ) (here : stop_order stop ≡ place)
    (so_far : StopsBefore marks stops place) where
  -- a stop that is marked is pushed
  pub stop_pushed : joined_stop_of stop ≡ stop → IsMarked marks (spot_of stop)
      → StopsBefore marks (stops ++ stop ∷ []) (place + 1)
  stop_pushed named is_marked =
      record {
        in_order = order_push stop_order stops stop so_far.in_order (below_stop stops place stop here so_far.before);
        before = all_push (λ s. stop_order s < place + 1) stops stop (below_next stops place so_far.before)
            (omega arith);
        named = λ other among. elim (among_cases stops other stop among) [
          | inl earlier ↦ so_far.named other earlier
          | inr same ↦ subst (λ (s : Stop). (joined_stop_of s ≡ s) × IsMarked marks (spot_of s)) same (named, is_marked)
        ];
        all = λ other low other_named other_marked. elim (cases_eq (stop_order other) place) [
          | inl same ↦ subst (λ s. IsAmong s (stops ++ stop ∷ [])) (same_order stop other (here ∙ sym same))
              (among_end stops stop)
          | inr different ↦ among_before stops other stop (so_far.all other (omega arith) other_named other_marked)
        ];
      }

  -- another is passed over
  pub stop_passed : ¬ ((joined_stop_of stop ≡ stop) × IsMarked marks (spot_of stop))
      → StopsBefore marks stops (place + 1)
  stop_passed not_here =
      record {
        in_order = so_far.in_order;
        before = below_next stops place so_far.before;
        named = so_far.named;
        all = λ other low other_named other_marked. elim (cases_eq (stop_order other) place) [
          | inl same ↦ absurd (not_here (subst (λ (s : Stop). (joined_stop_of s ≡ s) × IsMarked marks (spot_of s))
              (same_order other stop (same ∙ sym here)) (other_named, other_marked)))
          | inr different ↦ so_far.all other (omega arith) other_named other_marked
        ];
      }

-- a link of the first hexes and one more is of those hexes, or of that hex
pub hexes_more : (position : Position) (hex : Hex) (index : ℕ) → index_of hex ≡ index → (link : Link)
    → index_of link.hex < index + 1 → IsAmong link (links_of position link.hex)
    → (index_of link.hex < index) ⊎ IsAmong link (links_of position hex)
hexes_more position hex index is link low track =
    elim (cases_eq (index_of link.hex) index) [
      | inl same ↦ inr (subst (λ h. IsAmong link (links_of position h)) (same_index link.hex hex (same ∙ sym is)) track)
      | inr different ↦ inl (omega arith)
    ]

-- each of the links that lie in a hex lies there
pub lies_there : (hex : Hex) (links : List Link) (link : Link) → LieIn hex links → IsAmong link links → link.hex ≡ hex
lies_there hex [] link lie among = absurd among
lies_there hex (first ∷ rest) link lie (inl is) = subst (λ (l : Link). l.hex ≡ hex) is lie.0
lies_there hex (first ∷ rest) link lie (inr later) = lies_there hex rest link lie.1 later

-- a link among those of a hex is among those of its own hex
pub own_hex : (position : Position) → IsLawful position → (hex : Hex) (link : Link)
    → IsAmong link (links_of position hex) → IsAmong link (links_of position link.hex)
own_hex position lawful hex link among =
    let is : link.hex ≡ hex = lies_there hex (links_of position hex) link (lawful.links hex).here among in
    subst (λ h. IsAmong link (links_of position h)) (sym is) among

-- one more stop
pub stop_added : (marks : List Bool) (stops : List Stop) (stop : Stop) (place : ℕ) → stop_order stop ≡ place
    → StopsBefore marks stops place → (new : List Stop) → IsPushed marks stop stops new
    → StopsBefore marks new (place + 1)
stop_added marks stops stop place here so_far new (inl is) =
    subst (λ ls. StopsBefore marks ls (place + 1)) (sym is.1)
    (stop_pushed marks stops stop place here so_far is.0.0 is.0.1)
stop_added marks stops stop place here so_far new (inr none) =
    subst (λ ls. StopsBefore marks ls (place + 1)) (sym none.1) (stop_passed marks stops stop place here so_far none.0)

-- both stops of a hex
pub stops_added : (marks : List Bool) (stops : List Stop) (hex : Hex) (index : ℕ) → index_of hex ≡ index
    → StopsBefore marks stops (2 * index) → (between : List Stop) → IsPushed marks (stop_at hex First) stops between
    → (new : List Stop) → IsPushed marks (stop_at hex Second) between new → StopsBefore marks new (2 * (index + 1))
stops_added marks stops hex index is so_far between first new second =
    subst (λ n. StopsBefore marks new n) (omega arith)
    (stop_added marks between (stop_at hex Second) (2 * index + 1) (omega (arith, is))
    (stop_added marks stops (stop_at hex First) (2 * index) (omega (arith, is)) so_far between first)
    new second)

-- the number of a stop under its own name
pub named_number : (stop : Stop) → joined_stop_of stop ≡ stop
    → spot_number (spot_of stop) ≡ 8 * index_of stop.hex + (6 + stop_index_of stop.number)
named_number stop named = stop_number (spot_of stop) stop (ap (λ (s : Stop). Some s) named)
