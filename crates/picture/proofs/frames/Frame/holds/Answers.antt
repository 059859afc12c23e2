use Rattle.std.proofs.Common.{◌≡◌, ◌&&◌, Bool, SFits, rules, sym, ap, ◌∙◌}
use Rattle.std.specs.Int.{w32}
use Rattle.std.proofs.lemmas.Int.{to_z-of_z}
use Rattle.picture.proofs.FrameLemmas.{same_test}
use Rattle.picture.specs.Frames.{is_within}
use Rattle.picture.proofs.frames.Frame.holds.Goals as goal

pub returns-then-is_within : goal.returns-then-is_within
returns-then-is_within c =
    let frame = c.args.self.now in
    let other = c.args.other.now in
    let x : SFits w32 c.args.self.now.middle.x = search rules in
    let across : SFits w32 c.args.self.now.across = search rules in
    let other_x : SFits w32 c.args.other.now.middle.x = search rules in
    let other_across : SFits w32 c.args.other.now.across = search rules in
    let y : SFits w32 c.args.self.now.middle.y = search rules in
    let down : SFits w32 c.args.self.now.down = search rules in
    let other_y : SFits w32 c.args.other.now.middle.y = search rules in
    let other_down : SFits w32 c.args.other.now.down = search rules in
    let beside = c.is_within.ensures ∙ same_test is_within _ _ _ _ _ _ _ _
    (to_z-of_z w32 frame.middle.x x) (to_z-of_z w32 frame.across across)
    (to_z-of_z w32 other.middle.x other_x) (to_z-of_z w32 other.across other_across) in
    let upright = c.is_within-then-is_within.ensures ∙ same_test is_within _ _ _ _ _ _ _ _
    (to_z-of_z w32 frame.middle.y y) (to_z-of_z w32 frame.down down)
    (to_z-of_z w32 other.middle.y other_y) (to_z-of_z w32 other.down other_down) in
    upright
    ∙ ap (λ (b : Bool). b && is_within frame.middle.y frame.down other.middle.y other.down)
    (sym (sym beside ∙ c.if-is_within.true))
