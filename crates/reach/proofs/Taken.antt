-- The links that a walk may take which arrives where the marks say, in one list.
use Rattle.std.proofs.Common.{◌≡◌, ℕ, zero, suc, ◌<◌, ◌≤◌, Bool, ◌⊎◌, inl, inr, List, [], ◌∷◌, ◌++◌, get_or, sym, subst}
use Rattle.std.proofs.Common.{arith}
use Rattle.map_tables.proofs.HexTables.{hexes_at}
use Rattle.map_tables.specs.Hex.{hexes, index_of}
use Rattle.map_tables.specs.declared.hex.Hex.{Hex}
use Rattle.map_tables.specs.declared.hex.Hex.TheVariants.{A9}
use Rattle.map_tables.specs.declared.track.Link.{Link}
use Rattle.reach.proofs.Collected.{hexes_more, own_hex}
use Rattle.reach.proofs.Decided.{Decided, can_enter_decided, either_decided}
use Rattle.reach.proofs.Hexes.{index_low}
use Rattle.reach.specs.Lawful.{IsLawful}
use Rattle.reach.specs.Position.{Position, IsAmong, links_of}
use Rattle.reach.specs.Search.{AreTaken, CanEnter, CanEnterEither, CanTake}
use Rattle.reach.specs.Walk.{spot_at}
use Rattle.tables.specs.declared.roster.Company.{Company}

-- what is among one list or another
among_either : (links others : List Link) (link : Link) → IsAmong link (links ++ others)
    → IsAmong link links ⊎ IsAmong link others
among_either [] others link among = inr among
among_either (first ∷ links) others link (inl same) = inl (inl same)
among_either (first ∷ links) others link (inr later) =
    elim (among_either links others link later) [ inl one ↦ inl (inr one) | inr other ↦ inr other ]

among_first : (links others : List Link) (link : Link) → IsAmong link links → IsAmong link (links ++ others)
among_first [] others link among = absurd among
among_first (first ∷ links) others link (inl same) = inl same
among_first (first ∷ links) others link (inr later) = inr (among_first links others link later)

among_second : (links others : List Link) (link : Link) → IsAmong link others → IsAmong link (links ++ others)
among_second [] others link among = among
among_second (first ∷ links) others link among = inr (among_second links others link among)

-- those of some links that are such
record Such (P : Link → Type 0) (links : List Link) : Type 0 where
  found : List Link
  such : (link : Link) → IsAmong link found → IsAmong link links × P link
  all : (link : Link) → IsAmong link links → P link → IsAmong link found

such_of : (P : Link → Type 0) → ((link : Link) → Decided (P link)) → (links : List Link) → Such P links
such_of P decided [] = record { found = []; such = λ link among. absurd among; all = λ link among is. absurd among }
such_of P decided (first ∷ links) =
    let later : Such P links = such_of P decided links in
    elim (decided first) [
      | inl is ↦ record {
        found = first ∷ later.found;
        such = λ link among. elim among [
          | inl same ↦ (inl same, subst P same is)
          | inr other ↦ (inr (later.such link other).0, (later.such link other).1)
        ];
        all = λ link among so. elim among [ inl same ↦ inl same | inr other ↦ inr (later.all link other so) ];
      }
      | inr off ↦ record {
        found = later.found;
        such = λ link among. (inr (later.such link among).0, (later.such link among).1);
        all = λ link among so. elim among [
          | inl same ↦ absurd (off (subst P (sym same) so))
          | inr other ↦ later.all link other so
        ];
      }
    ]

module _ (position : Position) (company : Company) (lawful : IsLawful position) (marks : List Bool) where
  either_end : (link : Link) → Decided (CanEnterEither position company marks link)
  either_end link =
      either_decided (CanEnter position company marks (spot_at link.hex link.a))
      (CanEnter position company marks (spot_at link.hex link.b))
      (can_enter_decided position company marks (spot_at link.hex link.a))
      (can_enter_decided position company marks (spot_at link.hex link.b))

  -- those of the first hexes of the map
  record Before (count : ℕ) : Type 0 where
    found : List Link
    can : (link : Link) → IsAmong link found → CanTake position company marks link
    all : (link : Link) → index_of link.hex < count → CanTake position company marks link → IsAmong link found

  before : (count : ℕ) → count ≤ 93 → Before count
  before zero few = record { found = []; can = λ link among. absurd among; all = λ link low can. absurd (omega arith) }
  before (suc count) few =
      let hex : Hex = get_or hexes count A9 in
      let index : index_of hex ≡ count = hexes_at count A9 (omega arith) in
      let earlier : Before count = before count (omega arith) in
      let here : Such (CanEnterEither position company marks) (links_of position hex) =
      such_of (CanEnterEither position company marks) either_end (links_of position hex) in
      record {
        found = earlier.found ++ here.found;
        can = λ link among. elim (among_either earlier.found here.found link among) [
          | inl one ↦ earlier.can link one
          | inr other ↦ (own_hex position lawful hex link (here.such link other).0, (here.such link other).1)
        ];
        all = λ link low can. elim (hexes_more position hex count index link (omega arith) can.0) [
          | inl sooner ↦ among_first earlier.found here.found link (earlier.all link sooner can)
          | inr there ↦ among_second earlier.found here.found link (here.all link there can.1)
        ];
      }

  -- those of the map
  pub taken_links : (links : List Link) × AreTaken position company marks (λ link. IsAmong link links)
  taken_links =
      let all : Before 93 = before 93 (omega arith) in
      (all.found, λ link. (all.can link, λ can. all.all link (index_low link.hex) can))
