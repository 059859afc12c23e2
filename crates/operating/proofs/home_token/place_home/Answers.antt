use Rattle.std.proofs.Common.{sym, ◌∙◌}
use Rattle.operating.proofs.Fitting.{home_sound_after}
use Rattle.operating.proofs.home_token.place_home.Goals as goal

pub returns-clause-sound : goal.returns-clause-sound
returns-clause-sound c =
    home_sound_after c.args.history.now c.append.new.self c.args.company c.home.result c.place.result c.home.ensures
    c.place.ensures c.in_ok-append.ensures.ok
    (sym c.has_home_token.ensures ∙ c.if-has_home_token.false) c.requires
