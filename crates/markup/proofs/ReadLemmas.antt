-- What the reader finds behind what a writer adds.
use Rattle.std.specs.Prelude.{◌≡◌, ℕ, List, [], ◌∷◌, ◌++◌, refl, fold, codes, true, false, Bool, ◌==◌, not, ◌&&◌, if◌then◌else◌}
use Rattle.std.proofs.Common.{◌∙◌, ap, arith}
use Rattle.std.proofs.lemmas.List.Sums.{fold-append, fold_push}
use Rattle.markup.specs.Reading.{Read, read_at, reading, step, between, naming, inside, valued, lost}
use Rattle.markup.specs.Tags.{name_of_tag}
use Rattle.markup.specs.Written.{open_names, read_by, is_plain, is_apart}
use Rattle.markup.specs.declared.tag.Tag.{Tag}
use Rattle.markup.specs.declared.tag.Tag.TheVariants.{Html, Head, Title, Style, Script, Body, Header, H1, H2, H3, Paragraph, Nav, Anchor, Button, TextArea, Main, Listing, Item, Small, Bold, Section, Svg, Desc, Defs, Path, Circle, Group, Text, TextSpan, Use, Polyline, Table, Caption, TableHead, TableBody, Row, Heading, Cell, Division, Span, Preformatted, Input, InputLabel}
use Rattle.markup.specs.declared.writer.WriterPlace.{WriterPlace}
use Rattle.markup.specs.declared.writer.WriterPlace.TheVariants.{Between, Naming, Valued}

-- the reader goes on from what it has found
pub on_from : (text more : List ℕ) (found : Read) → reading text ≡ found → reading (text ++ more) ≡ fold step found more
on_from text more found h = fold-append step (read_at [] between) text more ∙ ap (λ r. fold step r more) h

-- the name of an element behind a `<`
named_by : (tag : Tag) (names : List (List ℕ)) →
    fold step (read_at names (naming [])) (name_of_tag tag) ≡ read_at names (naming (name_of_tag tag))
named_by Html names = refl
named_by Head names = refl
named_by Title names = refl
named_by Style names = refl
named_by Script names = refl
named_by Body names = refl
named_by Header names = refl
named_by H1 names = refl
named_by H2 names = refl
named_by H3 names = refl
named_by Paragraph names = refl
named_by Nav names = refl
named_by Anchor names = refl
named_by Button names = refl
named_by TextArea names = refl
named_by Main names = refl
named_by Listing names = refl
named_by Item names = refl
named_by Small names = refl
named_by Bold names = refl
named_by Section names = refl
named_by Svg names = refl
named_by Desc names = refl
named_by Defs names = refl
named_by Path names = refl
named_by Circle names = refl
named_by Group names = refl
named_by Text names = refl
named_by TextSpan names = refl
named_by Use names = refl
named_by Polyline names = refl
named_by Table names = refl
named_by Caption names = refl
named_by TableHead names = refl
named_by TableBody names = refl
named_by Row names = refl
named_by Heading names = refl
named_by Cell names = refl
named_by Division names = refl
named_by Span names = refl
named_by Preformatted names = refl
named_by Input names = refl
named_by InputLabel names = refl

-- behind the name in a start tag
pub begun : (text : List ℕ) (names : List (List ℕ)) (tag : Tag) → reading text ≡ read_at names between →
    reading ((text ++ codes "<") ++ name_of_tag tag) ≡ read_at names (naming (name_of_tag tag))
begun text names tag h =
    on_from (text ++ codes "<") (name_of_tag tag) (read_at names (naming [])) (on_from text (codes "<") (read_at names between) h)
    ∙ named_by tag names

-- an end tag of the innermost element
closing_by : (tag : Tag) (names : List (List ℕ)) →
    fold step (fold step (fold step (read_at (name_of_tag tag ∷ names) between) (codes "</")) (name_of_tag tag)) (codes ">")
    ≡ read_at names between
closing_by Html names = refl
closing_by Head names = refl
closing_by Title names = refl
closing_by Style names = refl
closing_by Script names = refl
closing_by Body names = refl
closing_by Header names = refl
closing_by H1 names = refl
closing_by H2 names = refl
closing_by H3 names = refl
closing_by Paragraph names = refl
closing_by Nav names = refl
closing_by Anchor names = refl
closing_by Button names = refl
closing_by TextArea names = refl
closing_by Main names = refl
closing_by Listing names = refl
closing_by Item names = refl
closing_by Small names = refl
closing_by Bold names = refl
closing_by Section names = refl
closing_by Svg names = refl
closing_by Desc names = refl
closing_by Defs names = refl
closing_by Path names = refl
closing_by Circle names = refl
closing_by Group names = refl
closing_by Text names = refl
closing_by TextSpan names = refl
closing_by Use names = refl
closing_by Polyline names = refl
closing_by Table names = refl
closing_by Caption names = refl
closing_by TableHead names = refl
closing_by TableBody names = refl
closing_by Row names = refl
closing_by Heading names = refl
closing_by Cell names = refl
closing_by Division names = refl
closing_by Span names = refl
closing_by Preformatted names = refl
closing_by Input names = refl
closing_by InputLabel names = refl

-- behind an end tag
pub closed_text : (text : List ℕ) (names : List (List ℕ)) (tag : Tag) → reading text ≡ read_at (name_of_tag tag ∷ names) between →
    reading (((text ++ codes "</") ++ name_of_tag tag) ++ codes ">") ≡ read_at names between
closed_text text names tag h =
    let start : Read = read_at (name_of_tag tag ∷ names) between in
    let slash : Read = fold step start (codes "</") in
    let name : Read = fold step slash (name_of_tag tag) in
    on_from ((text ++ codes "</") ++ name_of_tag tag) (codes ">") name
    (on_from (text ++ codes "</") (name_of_tag tag) slash (on_from text (codes "</") start h))
    ∙ closing_by tag names

-- the names of open elements, with one more
pub one_more : (tags : List Tag) (tag : Tag) → open_names (tags ++ tag ∷ []) ≡ name_of_tag tag ∷ open_names tags
one_more tags tag = fold_push (λ names tag. name_of_tag tag ∷ names) [] tags tag

-- behind the end tag of the element that was opened last
pub closed_by : (text : List ℕ) (tags all : List Tag) (tag : Tag) → all ≡ tags ++ tag ∷ [] →
    reading text ≡ read_at (open_names all) between →
    reading (((text ++ codes "</") ++ name_of_tag tag) ++ codes ">") ≡ read_at (open_names tags) between
closed_by text tags all tag e h =
    closed_text text (open_names tags) tag
    (h ∙ ap (λ names. read_at names between) (ap open_names e ∙ one_more tags tag))

-- the second of two choices
second : (b : Bool) → b ≡ false → (x y : Read) → (if b then x else y) ≡ y
second true h x y = grind arith
second false h x y = refl

-- a plain byte is no `<`, and no quotation mark
no_tag : (a b : Bool) → (not a && not b) ≡ true → a ≡ false
no_tag true b h = grind arith
no_tag false b h = refl

no_mark : (a b : Bool) → (not a && not b) ≡ true → b ≡ false
no_mark a b h = grind arith

-- a byte that has no meaning in tags leaves the reader where it is
stays : (names : List (List ℕ)) (spot : WriterPlace) (byte : ℕ) → is_apart spot ≡ true → is_plain byte ≡ true →
    step (read_by names spot) byte ≡ read_by names spot
stays names Between byte apart plain = second (byte == 60) (no_tag (byte == 60) (byte == 34) plain) (read_at names (naming [])) (read_at names between)
stays names (Naming tag) byte apart plain = grind arith
stays names (Valued tag) byte apart plain =
    second (byte == 34) (no_mark (byte == 60) (byte == 34) plain) (read_at names (inside (name_of_tag tag)))
    (if byte == 60 then read_at names lost else read_at names (valued (name_of_tag tag)))
    ∙ second (byte == 60) (no_tag (byte == 60) (byte == 34) plain) (read_at names lost) (read_at names (valued (name_of_tag tag)))

-- behind such a byte
pub plain_kept : (text : List ℕ) (names : List (List ℕ)) (spot : WriterPlace) (byte : ℕ) → is_apart spot ≡ true → is_plain byte ≡ true →
    reading text ≡ read_by names spot → reading (text ++ byte ∷ []) ≡ read_by names spot
plain_kept text names spot byte apart plain h =
    on_from text (byte ∷ []) (read_by names spot) h ∙ stays names spot byte apart plain
