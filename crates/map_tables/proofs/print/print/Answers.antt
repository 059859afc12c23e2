-- Each arm has the print that the hexes of its group have.
use Rattle.std.proofs.Common.{sym, refl, drop, [], ◌∷◌}
use Rattle.map_tables.specs.declared.hex.Hex.TheVariants.{A9, A11, A17, A19, B10, B16, B18, B20, B24, C15, C17, C19, C21, D2, D4, D6, D10, D14, D22, D24, E5, E7, E9, E11, E17}
use Rattle.map_tables.specs.declared.hex.Hex.TheVariants.{E19, E21, E23, F2, F4, F6, F10, F16, F20, F22, F24, G7, G13, G15, G17, G19, H4, H10, H12, H16, H18, I1, I11, I13, I15}
use Rattle.map_tables.specs.declared.hex.Hex.TheVariants.{I17, I19, J2, J10, J12, J14, K13, K15}
use Rattle.map_tables.specs.Hex.{index_of, hexes, site_of}
use Rattle.map_tables.specs.Print.{groups, plain_hexes, print_of}
use Rattle.map_tables.proofs.SamePrint.{same_print}
use Rattle.map_tables.proofs.print.print.Goals as goal

pub returns-in-F2 : goal.returns-in-F2
unfolding index_of hexes site_of groups plain_hexes print_of
returns-in-F2 c = sym (same_print _ c.args.hex F2 [] refl c.in-F2.is)

pub returns-in-J2 : goal.returns-in-J2
unfolding index_of hexes site_of groups plain_hexes print_of
returns-in-J2 c = sym (same_print _ c.args.hex J2 [] refl c.in-J2.is)

pub returns-in-I1 : goal.returns-in-I1
unfolding index_of hexes site_of groups plain_hexes print_of
returns-in-I1 c = sym (same_print _ c.args.hex I1 [] refl c.in-I1.is)

pub returns-in-A11 : goal.returns-in-A11
unfolding index_of hexes site_of groups plain_hexes print_of
returns-in-A11 c = sym (same_print _ c.args.hex A11 [] refl c.in-A11.is)

pub returns-in-A9 : goal.returns-in-A9
unfolding index_of hexes site_of groups plain_hexes print_of
returns-in-A9 c = sym (same_print _ c.args.hex A9 [] refl c.in-A9.is)

pub returns-in-K13 : goal.returns-in-K13
unfolding index_of hexes site_of groups plain_hexes print_of
returns-in-K13 c = sym (same_print _ c.args.hex K13 [] refl c.in-K13.is)

pub returns-in-B24 : goal.returns-in-B24
unfolding index_of hexes site_of groups plain_hexes print_of
returns-in-B24 c = sym (same_print _ c.args.hex B24 [] refl c.in-B24.is)

pub returns-in-D2 : goal.returns-in-D2
unfolding index_of hexes site_of groups plain_hexes print_of
returns-in-D2 c = sym (same_print _ c.args.hex D2 [] refl c.in-D2.is)

pub returns-in-F6 : goal.returns-in-F6
unfolding index_of hexes site_of groups plain_hexes print_of
returns-in-F6 c = sym (same_print _ c.args.hex F6 [] refl c.in-F6.is)

pub returns-in-E9 : goal.returns-in-E9
unfolding index_of hexes site_of groups plain_hexes print_of
returns-in-E9 c = sym (same_print _ c.args.hex E9 [] refl c.in-E9.is)

pub returns-in-H12 : goal.returns-in-H12
unfolding index_of hexes site_of groups plain_hexes print_of
returns-in-H12 c = sym (same_print _ c.args.hex H12 [] refl c.in-H12.is)

pub returns-in-D14 : goal.returns-in-D14
unfolding index_of hexes site_of groups plain_hexes print_of
returns-in-D14 c = sym (same_print _ c.args.hex D14 [] refl c.in-D14.is)

pub returns-in-C15 : goal.returns-in-C15
unfolding index_of hexes site_of groups plain_hexes print_of
returns-in-C15 c = sym (same_print _ c.args.hex C15 [] refl c.in-C15.is)

pub returns-in-K15 : goal.returns-in-K15
unfolding index_of hexes site_of groups plain_hexes print_of
returns-in-K15 c = sym (same_print _ c.args.hex K15 [] refl c.in-K15.is)

pub returns-in-A17 : goal.returns-in-A17
unfolding index_of hexes site_of groups plain_hexes print_of
returns-in-A17 c = sym (same_print _ c.args.hex A17 [] refl c.in-A17.is)

pub returns-in-A19 : goal.returns-in-A19
unfolding index_of hexes site_of groups plain_hexes print_of
returns-in-A19 c = sym (same_print _ c.args.hex A19 [] refl c.in-A19.is)

pub returns-in-I19 : goal.returns-in-I19
unfolding index_of hexes site_of groups plain_hexes print_of
returns-in-I19 c = sym (same_print _ c.args.hex I19 (F24 ∷ []) refl c.in-I19.is)

pub returns-in-D24 : goal.returns-in-D24
unfolding index_of hexes site_of groups plain_hexes print_of
returns-in-D24 c = sym (same_print _ c.args.hex D24 [] refl c.in-D24.is)

pub returns-in-I15 : goal.returns-in-I15
unfolding index_of hexes site_of groups plain_hexes print_of
returns-in-I15 c = sym (same_print _ c.args.hex I15 [] refl c.in-I15.is)

pub returns-in-E23 : goal.returns-in-E23
unfolding index_of hexes site_of groups plain_hexes print_of
returns-in-E23 c = sym (same_print _ c.args.hex E23 [] refl c.in-E23.is)

pub returns-in-G19 : goal.returns-in-G19
unfolding index_of hexes site_of groups plain_hexes print_of
returns-in-G19 c = sym (same_print _ c.args.hex G19 [] refl c.in-G19.is)

pub returns-in-E5 : goal.returns-in-E5
unfolding index_of hexes site_of groups plain_hexes print_of
returns-in-E5 c = sym (same_print _ c.args.hex E5 (D10 ∷ []) refl c.in-E5.is)

pub returns-in-E11 : goal.returns-in-E11
unfolding index_of hexes site_of groups plain_hexes print_of
returns-in-E11 c = sym (same_print _ c.args.hex E11 (H18 ∷ []) refl c.in-E11.is)

pub returns-in-E19 : goal.returns-in-E19
unfolding index_of hexes site_of groups plain_hexes print_of
returns-in-E19 c = sym (same_print _ c.args.hex E19 (H4 ∷ B10 ∷ H10 ∷ H16 ∷ B16 ∷ []) refl c.in-E19.is)

pub returns-in-F4 : goal.returns-in-F4
unfolding index_of hexes site_of groups plain_hexes print_of
returns-in-F4 c = sym (same_print _ c.args.hex F4 (J14 ∷ F22 ∷ []) refl c.in-F4.is)

pub returns-in-F16 : goal.returns-in-F16
unfolding index_of hexes site_of groups plain_hexes print_of
returns-in-F16 c = sym (same_print _ c.args.hex F16 [] refl c.in-F16.is)

pub returns-in-E7 : goal.returns-in-E7
unfolding index_of hexes site_of groups plain_hexes print_of
returns-in-E7 c = sym (same_print _ c.args.hex E7 (B20 ∷ D4 ∷ F10 ∷ []) refl c.in-E7.is)

pub returns-in-G7 : goal.returns-in-G7
unfolding index_of hexes site_of groups plain_hexes print_of
returns-in-G7 c = sym (same_print _ c.args.hex G7 (G17 ∷ F20 ∷ []) refl c.in-G7.is)

pub returns-in-I13 : goal.returns-in-I13
unfolding index_of hexes site_of groups plain_hexes print_of
returns-in-I13 c = sym (same_print _ c.args.hex I13 (drop 1 plain_hexes) refl c.in-I13.is)

pub returns-in-G15 : goal.returns-in-G15
unfolding index_of hexes site_of groups plain_hexes print_of
returns-in-G15 c = sym (same_print _ c.args.hex G15 (C17 ∷ C21 ∷ D22 ∷ E17 ∷ E21 ∷ G13 ∷ I11 ∷ J10 ∷ J12 ∷ []) refl c.in-G15.is)

pub returns-in-D6 : goal.returns-in-D6
unfolding index_of hexes site_of groups plain_hexes print_of
returns-in-D6 c = sym (same_print _ c.args.hex D6 (I17 ∷ B18 ∷ C19 ∷ []) refl c.in-D6.is)
