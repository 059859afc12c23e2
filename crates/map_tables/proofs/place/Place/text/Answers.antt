use Rattle.map_tables.proofs.Texts.{stop_written}
use Rattle.map_tables.proofs.place.Place.text.Goals as goal

pub returns : goal.returns
returns c =
    stop_written c.args.self _ c.digit_of.result c.text-text.result.items c.push.new.self.items
    c.push-2.new.self.items c.text-text.ensures.text c.in-Some.is c.digit_of.ensures c.push.ensures.items
    c.push-2.ensures.items
