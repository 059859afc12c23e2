-- The comparisons of stops and links are exact.
use Rattle.std.proofs.Common.{◌≡◌, Bool, true, ◌&&◌, refl, ap, sym, ◌∙◌}
use Rattle.std.proofs.lemmas.Bool.{and_from, and_parts}
use denote.Enum.Bare.{sameb, same_true, true_same}
use Rattle.map_tables.specs.contracts.hex.Hex.{the_type as hex_type}
use Rattle.map_tables.specs.contracts.place.StopNumber.{the_type as number_type}
use Rattle.map_tables.specs.contracts.side.Side.{the_type as side_type}
use Rattle.map_tables.specs.contracts.track.TrackEndPartialEq.TheImpl.{ghosts as end_ghosts}
use Rattle.map_tables.specs.contracts.track.LinkPartialEq.TheImpl.{ghosts as link_ghosts}
use Rattle.map_tables.specs.declared.hex.Hex.{Hex}
use Rattle.map_tables.specs.declared.place.Stop.{Stop}
use Rattle.map_tables.specs.declared.place.StopNumber.{StopNumber}
use Rattle.map_tables.specs.declared.track.TrackEnd.{TrackEnd}
use Rattle.map_tables.specs.declared.track.TrackEnd.TheVariants.{Side as AtSide, Stop as AtStop}
use Rattle.map_tables.specs.declared.track.Link.{Link}

-- stops that compare alike are one
pub same_stop : (a b : Stop) → (sameb hex_type a.hex b.hex && sameb number_type a.number b.number) ≡ true → a ≡ b
same_stop a b alike =
    let parts : (sameb hex_type a.hex b.hex ≡ true) × (sameb number_type a.number b.number ≡ true) =
    and_parts (sameb hex_type a.hex b.hex) (sameb number_type a.number b.number) alike
    in ap (λ (h : Hex). let s : Stop = record { hex = h; number = a.number } in s)
    (same_true hex_type tt a.hex b.hex parts.0)
    ∙ ap (λ (n : StopNumber). let s : Stop = record { hex = b.hex; number = n } in s)
    (same_true number_type tt a.number b.number parts.1)

-- and one stop compares alike
pub stop_same : (a b : Stop) → a ≡ b → (sameb hex_type a.hex b.hex && sameb number_type a.number b.number) ≡ true
stop_same a b is =
    and_from (sameb hex_type a.hex b.hex) (sameb number_type a.number b.number)
    (true_same hex_type a.hex b.hex (ap (λ (s : Stop). s.hex) is))
    (true_same number_type a.number b.number (ap (λ (s : Stop). s.number) is))

-- ends that compare alike are one
pub same_end : (a b : TrackEnd) → end_ghosts.eq a b ≡ true → a ≡ b
same_end (AtSide side) (AtSide other) alike = ap AtSide (same_true side_type tt side other alike)
same_end (AtStop number) (AtStop other) alike = ap AtStop (same_true number_type tt number other alike)
same_end (AtSide side) (AtStop number) alike = cc
same_end (AtStop number) (AtSide side) alike = cc

end_itself : (a : TrackEnd) → end_ghosts.eq a a ≡ true
end_itself (AtSide side) = true_same side_type side side refl
end_itself (AtStop number) = true_same number_type number number refl

-- and one end compares alike
pub end_same : (a b : TrackEnd) → a ≡ b → end_ghosts.eq a b ≡ true
end_same a b is = ap (end_ghosts.eq a) (sym is) ∙ end_itself a

-- links that compare alike are one
pub same_link : (a b : Link) → link_ghosts.eq a b ≡ true → a ≡ b
same_link a b alike =
    let hex : Bool = sameb hex_type a.hex b.hex in
    let first : Bool = end_ghosts.eq a.a b.a in
    let second : Bool = end_ghosts.eq a.b b.b in
    let ends : (hex ≡ true) × ((first && second) ≡ true) = and_parts hex (first && second) alike in
    let each : (first ≡ true) × (second ≡ true) = and_parts first second ends.1 in
    ap (λ (h : Hex). let l : Link = record { hex = h; a = a.a; b = a.b } in l)
    (same_true hex_type tt a.hex b.hex ends.0)
    ∙ (ap (λ (e : TrackEnd). let l : Link = record { hex = b.hex; a = e; b = a.b } in l) (same_end a.a b.a each.0)
    ∙ ap (λ (e : TrackEnd). let l : Link = record { hex = b.hex; a = b.a; b = e } in l) (same_end a.b b.b each.1))

link_itself : (a : Link) → link_ghosts.eq a a ≡ true
link_itself a =
    and_from (sameb hex_type a.hex a.hex) (end_ghosts.eq a.a a.a && end_ghosts.eq a.b a.b)
    (true_same hex_type a.hex a.hex refl)
    (and_from (end_ghosts.eq a.a a.a) (end_ghosts.eq a.b a.b) (end_itself a.a) (end_itself a.b))

-- and one link compares alike
pub link_same : (a b : Link) → a ≡ b → link_ghosts.eq a b ≡ true
link_same a b is = ap (link_ghosts.eq a) (sym is) ∙ link_itself a
