use Rattle.std.proofs.Common.{rules, ◌≡◌, ◌++◌, ◌∷◌, [], true, map, sym, subst}
use Rattle.picture.specs.declared.names.PlacedName.{PlacedName}
use Rattle.picture.specs.Frames.{is_free, reaching}
use Rattle.picture.specs.Names.{ArePlaced, frame_of_name, name_room}
use Rattle.picture.proofs.NameLemmas.{placed_next}
use Rattle.picture.proofs.names.add_name.Goals as goal

pub returns : goal.returns
returns c =
    let signs = c.args.kept.signs.now in
    let lines = c.args.kept.lines.now in
    let names = c.args.names.now.items in
    let room = name_room c.args.look.now.hex in
    let near = c.in_ok-near.near.items in
    let name : PlacedName = record { hex = c.args.look.now.hex; words = c.args.words; frame = c.in-Some.frame } in
    let same : near ≡ (reaching room signs ++ reaching room lines) ++ reaching room (map frame_of_name names) =
    search rules in
    let free : is_free room near c.in-Some.frame ≡ true = search rules in
    let pushed : c.push.new.self.items ≡ names ++ name ∷ [] = search rules in
    subst (ArePlaced signs lines) (sym pushed) (placed_next signs lines names near name c.requires same free)
