-- The list is searched by an exact comparison.
use Rattle.std.proofs.Common.{◌≡◌, ap, sym, ◌∙◌, subst}
use Rattle.map_tables.specs.contracts.track.LinkPartialEq.TheImpl.{ghosts}
use Rattle.reach.specs.Position.{IsAmong}
use Rattle.reach.specs.Reached.{Reaching}
use Rattle.reach.proofs.Equal.{same_link, link_same}
use Rattle.reach.proofs.Lists.{among_found, found_among}
use Rattle.reach.proofs.reach_found.Reach.touches.Goals as goal

pub returns : goal.returns
returns c =
    let link = c.args.link.now in
    let items : c.deref.result.now ≡ c.args.self.now.links =
    c.deref.ensures.value ∙ ap (λ (r : Reaching). r.links) c.self.view_is in (
      λ found. subst (λ ls. IsAmong link ls) items (among_found ghosts.eq same_link c.deref.result.now link
          (sym c.contains.ensures.value ∙ found)),
      λ among. c.contains.ensures.value ∙ found_among ghosts.eq link_same c.deref.result.now link
          (subst (λ ls. IsAmong link ls) (sym items) among),
    )
