-- Names without quotes and with them, by computation.
use Rattle.std.specs.Prelude.{◌≡◌, refl, List, [], ◌∷◌, false, ℕ, zero, suc}
use Rattle.model.specs.Lists.{filterb}
use Rattle.model.specs.Text.{octets}
use Rattle.model.specs.Names.{Name, valid}
use Rattle.model.specs.Lines.{spaced}
use Rattle.model.specs.Examples.Stream.{computed}
use Rattle.line_name.specs.Bare.{bare_text}

-- names of one octet: n of them, from an octet on
abbrev pub single : ℕ → ℕ → List Name
single zero b = []
single (suc n) b = (b ∷ []) ∷ single n (suc b)

abbrev pub written : List Name → List (List ℕ)
written [] = []
written (n ∷ ns) = bare_text n ∷ written ns

-- each of the 95 octets of names by itself, as it is written, with a space between two; `/` by itself is no name
pub octet_by_octet : spaced (written (filterb valid (single 95 0x20)))
    ≡ octets "\" \" ! \"\\\"\" # $ \"%\" & ' \"(\" \")\" \"*\" + , - . 0 1 2 3 4 5 6 7 8 9 : ; < = > ? @ A B C D E F G H I J K L M N O P Q R S T U V W X Y Z [ \"\\\\\" \"]\" ^ _ ` a b c d e f g h i j k l m n o p q r s t u v w x y z \"{\" | } ~"
unfolding computed bare_text
octet_by_octet = refl

pub slash : valid (octets "/") ≡ false
unfolding computed
slash = refl

-- a whole name that is NIL in any case is quoted, a part of one or a longer word not
pub nil : spaced (written (octets "NIL" ∷ octets "nIl" ∷ octets "NIL/x" ∷ octets "x/nil" ∷ octets "NILS" ∷ []))
    ≡ octets "\"NIL\" \"nIl\" NIL/x x/nil NILS"
unfolding computed bare_text
nil = refl
