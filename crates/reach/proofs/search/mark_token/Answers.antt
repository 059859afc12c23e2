-- A stop with a token is marked, and another is not. A stop has the tokens of the one that names it.
use Rattle.std.proofs.Common.{◌≡◌, true, false, inl, inr, refl, sym, ◌∙◌, subst, get_or}
use Rattle.map_tables.specs.Place.{joined_stop_of, stop_index_of}
use Rattle.map_tables.specs.declared.place.Stop.{Stop}
use Rattle.reach.specs.Position.{HasToken, IsAmong, Position, in_hex, no_stop}
use Rattle.reach.proofs.Hexes.{joined_twice}
use Rattle.reach.proofs.search.mark_token.Goals as goal
use Rattle.tables.specs.declared.roster.Company.{Company}

-- a company has a token at the stop that a name names
abbrev IsNamed : Position → Company → Stop → Type 0
IsNamed position company named =
    IsAmong company (get_or (in_hex position named.hex).stops (stop_index_of named.number) no_stop).tokens

has_by_name :
    (position : Position) (company : Company) (stop : Stop) →
    HasToken position stop company → HasToken position (joined_stop_of stop) company
has_by_name position company stop = subst (IsNamed position company) (sym (joined_twice stop))

named_has :
    (position : Position) (company : Company) (stop : Stop) →
    HasToken position (joined_stop_of stop) company → HasToken position stop company
named_has position company stop = subst (IsNamed position company) (joined_twice stop)

pub returns-then-token : goal.returns-then-token
returns-then-token g c =
    inl (
      has_by_name (g.N.Network.position c.args.network.now) c.args.company c.args.stop (c.token.ensures.0
          c.if-token.true),
      c.mark.ensures,
    )

pub returns-else-token : goal.returns-else-token
returns-else-token g c =
    inr (
      λ token. (let found : true ≡ false = sym (c.token.ensures.1
          (named_has (g.N.Network.position c.args.network.now) c.args.company c.args.stop token))
          ∙ c.if-token.false in cc),
      refl,
      refl,
    )
