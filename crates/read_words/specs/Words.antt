-- The words of keys by the code's names for them, and what stands behind them. Assumes nothing: these are definitions.
use Rattle.std.specs.Prelude.{Option, Some, None, List, ◌≡◌, ℕ, ◌≤◌, length}
use Rattle.std.specs.Borrow.{Bor}
use Rattle.std.specs.Option.{option_map}
use Rattle.std.specs.List.{find}
use Rattle.model.specs.Text.{same_word}
use Rattle.model.specs.Requests.{all, unsupported, flagged}
use Rattle.model.specs.Reading.{and_then, after, number_at, astring_at, atom_at, date_at}
use Rattle.octets.specs.Found.{next_of}
use Rattle.octets.specs.Numerals.{number_read}
use Rattle.model.specs.SearchGrammar.{Keyword, bare, above, below, uid_set, string, keyword, date, header, negated, alternatives, strange}
use Rattle.read_words.specs.declared.Argument.{Argument}
use Rattle.read_words.specs.declared.Argument.TheVariants.{Nothing, Text, Keyword as Atom, Date, Header}
use Rattle.read_words.specs.declared.Word.{Word}
use Rattle.read_words.specs.declared.Word.TheVariants.{All, Flag, Above, Below, Uids, Unsupported, Negated, Alternatives}

abbrev pub takes : Argument → Keyword
takes Nothing = bare unsupported
takes Text = string
takes Atom = keyword
takes Date = date
takes Header = header

-- what the code's name stands for
abbrev pub named : Word → Keyword
named All = bare all
named (Flag b on) = bare (flagged b on)
named Above = above
named Below = below
named Uids = uid_set
named (Unsupported a) = takes a
named Negated = negated
named Alternatives = alternatives

-- the same, and None for a word that is no key's
abbrev pub meant : Option Word → Keyword
meant (Some w) = named w
meant None = strange

-- what the first of these words that w is means, whatever the case of its letters
abbrev pub meaning : List ℕ → List (Bor (List ℕ) × Word) → Option Word
meaning w keys = option_map (λ k. k.1) (find (λ k. same_word w k.0.now) keys)

-- the number behind a word, and a space
abbrev pub size_at : List ℕ → ℕ → Option (ℕ × ℕ)
size_at s p = number_read (after s p " " λ q. number_at s q)

-- where what stands behind the word of a key that is not supported ends
abbrev pub argument_at : Argument → List ℕ → ℕ → Option ℕ
argument_at Nothing s p = Some p
argument_at Text s p = next_of (after s p " " λ q. astring_at s q)
argument_at Atom s p = next_of (after s p " " λ q. atom_at s q)
argument_at Date s p = next_of (after s p " " λ q. date_at s q)
argument_at Header s p = next_of (after s p " " λ q. and_then (astring_at s q) λ r field. after s r " " λ t. astring_at s t)

abbrev pub Behind : List ℕ → ℕ → Option ℕ → Type 0
Behind s at (Some p) = (at ≤ p) × (p ≤ length s)
Behind s at None = Unit {0}

pub record Argues (s : List ℕ) (at : ℕ) (a : Argument) (r : Option ℕ) : Type 0 where
  pub exact : r ≡ argument_at a s at
  pub within : Behind s at r
