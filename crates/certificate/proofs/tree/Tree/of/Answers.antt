-- The trains of the six kinds are all trains, and what is kept of each is so.
use Rattle.std.proofs.Common.{◌≡◌, List, [], ap, sym, ◌∙◌, subst, arith}
use Rattle.map_tables.specs.declared.place.Stop.{Stop}
use Rattle.reach.specs.Position.{IsAmong, Position}
use Rattle.tables.specs.declared.rolling_stock.Kind.{Kind}
use Rattle.tables.specs.declared.rolling_stock.Kind.TheVariants.{Diesel, Five, Four, Six, Three, Two}
use Rattle.certificate.specs.Tree.{may_earn}
use Rattle.certificate.specs.declared.tree.Group.{Group}
use Rattle.certificate.proofs.Leaves.{all_named}
use Rattle.certificate.proofs.Places.{groups_in_order, groups_size}
use Rattle.certificate.proofs.tree.Tree.of.Goals as goal

pub returns-clause-tree : goal.returns-clause-tree
returns-clause-tree g c =
    let position : Position = g.N.Network.position c.args.network.now in
    let trains : List Kind = c.args.trains.now in
    let reached : List Stop = c.reached_stops-reached.result in
    let reach = c.reached_stops-reached.ensures in
    let ranked = c.of-ranking.ensures in
    let earns : (group : Group) (kind : Kind) → group.kind ≡ kind → group.may_earn ≡ may_earn position reached kind []
    → group.may_earn ≡ may_earn position reached group.kind [] =
    λ group kind is amount. amount ∙ ap (λ (k : Kind). may_earn position reached k []) (sym is) in
    let size =
    groups_size trains c.group_of.result c.group_of-2.result c.group_of-3.result c.group_of-4.result
    c.group_of-5.result c.group_of-6.result
    (record { its_kind = c.group_of.ensures.kind; its_count = c.group_of.ensures.count })
    (record { its_kind = c.group_of-2.ensures.kind; its_count = c.group_of-2.ensures.count })
    (record { its_kind = c.group_of-3.ensures.kind; its_count = c.group_of-3.ensures.count })
    (record { its_kind = c.group_of-4.ensures.kind; its_count = c.group_of-4.ensures.count })
    (record { its_kind = c.group_of-5.ensures.kind; its_count = c.group_of-5.ensures.count })
    (record { its_kind = c.group_of-6.ensures.kind; its_count = c.group_of-6.ensures.count }) in
    record {
      lawful = c.keeps_laws.ensures;
      named = λ stop among. all_named position c.args.company reach.0 reach.1 stop
          (subst (λ (l : List Stop). IsAmong stop l) (sym reach.2) among);
      earnings = (
        earns c.group_of.result Diesel c.group_of.ensures.kind
            (c.group_of.ensures.may_earn position reached ranked),
        (
          earns c.group_of-2.result Six c.group_of-2.ensures.kind
              (c.group_of-2.ensures.may_earn position reached ranked),
          (
            earns c.group_of-3.result Five c.group_of-3.ensures.kind
                (c.group_of-3.ensures.may_earn position reached ranked),
            (
              earns c.group_of-4.result Four c.group_of-4.ensures.kind
                  (c.group_of-4.ensures.may_earn position reached ranked),
              (
                earns c.group_of-5.result Three c.group_of-5.ensures.kind
                    (c.group_of-5.ensures.may_earn position reached ranked),
                (
                  earns c.group_of-6.result Two c.group_of-6.ensures.kind
                      (c.group_of-6.ensures.may_earn position reached ranked),
                  tt,
                ),
              ),
            ),
          ),
        ),
      );
      count = c.number_of.ensures ∙ sym size;
      fits = omega (arith, size, c.number_of.ensures, c.number_of.type_inv);
      ranking = ranked;
      links = c.of.ensures;
      known = c.of-known.ensures;
    }

pub returns-clause-trains : goal.returns-clause-trains
returns-clause-trains g c =
    let trains : List Kind = c.args.trains.now in
    groups_in_order trains c.group_of.result c.group_of-2.result c.group_of-3.result c.group_of-4.result
    c.group_of-5.result c.group_of-6.result
    (record { its_kind = c.group_of.ensures.kind; its_count = c.group_of.ensures.count })
    (record { its_kind = c.group_of-2.ensures.kind; its_count = c.group_of-2.ensures.count })
    (record { its_kind = c.group_of-3.ensures.kind; its_count = c.group_of-3.ensures.count })
    (record { its_kind = c.group_of-4.ensures.kind; its_count = c.group_of-4.ensures.count })
    (record { its_kind = c.group_of-5.ensures.kind; its_count = c.group_of-5.ensures.count })
    (record { its_kind = c.group_of-6.ensures.kind; its_count = c.group_of-6.ensures.count })
