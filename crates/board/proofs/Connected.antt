-- What connects a tile: a link or a stop of its hex that is reached once it lies.
use Rattle.std.proofs.Common.{◌≡◌, ◌∙◌, ◌↔◌, ap, subst, sym, refl, true, false, cond, not, ◌++◌, ◌∷◌, []}
use Rattle.std.proofs.Common.{Some, inl, inr}
use Rattle.board.specs.LayRules.{IsConnected}
use Rattle.board_state.proofs.Positions.{in_hex_is}
use Rattle.board_state.proofs.Tiles.{last_lies}
use Rattle.board_state.specs.MapState.{MapState, position_of, with_lay}
use Rattle.map_tables.proofs.HexTables.{same_hex-same}
use Rattle.map_tables.specs.Fit.{is_open}
use Rattle.map_tables.specs.Lay.{laid_links_of}
use Rattle.map_tables.specs.OnMap.{by_tile, links_on, tile_on}
use Rattle.map_tables.specs.Place.{joined_hex}
use Rattle.map_tables.specs.Hex.{index_of, hexes, site_of}
use Rattle.map_tables.specs.Print.{groups, plain_hexes, print_of, printed_links_of}
use Rattle.map_tables.specs.declared.hex.Hex.{Hex}
use Rattle.map_tables.specs.declared.hex.Hex.TheVariants.{A9, I1}
use Rattle.map_tables.specs.declared.lay.Lay.{Lay}
use Rattle.reach.specs.Pieces.{ReachesIn}
use Rattle.reach.specs.Position.{InHex, IsAmong, links_of}
use Rattle.tables.specs.declared.roster.Company.{Company}

-- a hex that takes tiles is no part of another's stop
pub open_own : (hex : Hex) → not (is_open (print_of hex).kind) ≡ false → joined_hex hex ≡ hex
unfolding index_of hexes site_of groups plain_hexes print_of
open_own A9 takes = absurd (let wrong : true ≡ false = takes in let no : ⊥ = cc in no)
open_own I1 takes = absurd (let wrong : true ≡ false = takes in let no : ⊥ = cc in no)
open_own hex takes = refl

module _ (laid : MapState) (company : Company) (lay : Lay) (own : joined_hex lay.hex ≡ lay.hex) where
  -- the links of a tile are those of its hex once it lies
  links_after : links_of (position_of (with_lay laid lay)) lay.hex ≡ laid_links_of lay
  links_after =
      let hex = lay.hex in
      let lays = laid.lays ++ lay ∷ [] in
      let printed = printed_links_of hex in
      ap (λ (h : InHex). h.links) (in_hex_is (with_lay laid lay) hex)
      ∙ ap (λ b. cond b (links_on lays hex) printed) (same_hex-same (joined_hex hex) hex own)
      ∙ ap (by_tile printed laid_links_of) (last_lies laid.lays lay hex)
      ∙ ap (λ b. by_tile printed laid_links_of (cond b (Some lay) (tile_on laid.lays hex)))
      (same_hex-same hex hex refl)

  -- so a piece of the hex is one of the tile
  pub connected_is : ReachesIn (position_of (with_lay laid lay)) company lay.hex
      ↔ IsConnected (position_of (with_lay laid lay)) company lay
  connected_is = (
    λ piece. record {
      piece = elim piece [
        | inl (link, among, reached) ↦ inl (link, subst (IsAmong link) links_after among, reached)
        | inr stop ↦ inr stop
      ];
    },
    λ connected. elim connected.piece [
      | inl (link, among, reached) ↦ inl (link, subst (IsAmong link) (sym links_after) among, reached)
      | inr stop ↦ inr stop
    ],
  )
