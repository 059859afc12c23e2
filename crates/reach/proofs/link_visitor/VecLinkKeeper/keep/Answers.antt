-- The link at the end is kept, and those before it.
use Rattle.std.proofs.Common.{◌≡◌, List, [], ◌∷◌, ◌++◌, sym, subst}
use Rattle.map_tables.specs.declared.track.Link.{Link}
use Rattle.reach.specs.Position.{IsAmong}
use Rattle.reach.specs.Search.{IsKept}
use Rattle.reach.proofs.Lists.{among_before, among_cases, among_end}
use Rattle.reach.proofs.link_visitor.VecLinkKeeper.keep.Goals as goal

pushed : (links : List Link) (link : Link) → IsKept link (λ other. IsAmong other links)
    (λ other. IsAmong other (links ++ link ∷ []))
pushed links link =
    record {
      here = among_end links link;
      stay = λ other among. among_before links other link among;
      only = λ other among. among_cases links other link among;
    }

is_pushed : (links : List Link) (link : Link) (new : List Link) → new ≡ links ++ link ∷ []
    → IsKept link (λ other. IsAmong other links) (λ other. IsAmong other new)
is_pushed links link new is = subst (λ ls. IsKept link (λ other. IsAmong other links) (λ other. IsAmong other ls))
    (sym is) (pushed links link)

pub returns : goal.returns
returns c = is_pushed c.args.self.now.items c.args.link c.push.new.self.items c.in_ok-push.ensures.items
