-- What the readers of options answer: an option, a row of options, and what a search is to return. Assumes nothing: these are definitions.
use Rattle.std.specs.Prelude.{Option, true, false, not, ◌&&◌, ◌||◌, List, ℕ}
use Rattle.model.specs.Lists.{apart}
use Rattle.model.specs.Reading.{Parsed}
use Rattle.model.specs.SearchGrammar.{Return, minimum, maximum, all_of, count, like, return_at, returned, all_returned}
use Rattle.octets.specs.Joined.{read_by}
use Rattle.read_options.specs.declared.Row.{Row}
use Rattle.read_options.specs.declared.Returns.{Returns}

-- ---- one option
abbrev pub returns_one : Return → Returns
returns_one minimum = record { min = true; max = false; all = false; count = false }
returns_one maximum = record { min = false; max = true; all = false; count = false }
returns_one all_of = record { min = false; max = false; all = true; count = false }
returns_one count = record { min = false; max = false; all = false; count = true }

abbrev pub read_option : Parsed Return → Option (Returns × ℕ)
read_option x = read_by returns_one x

-- ---- a row
-- which options a row has, and whether none is written twice
abbrev pub row_of : List Return → Row
row_of rs =
    record {
      returns = record { min = returned minimum rs; max = returned maximum rs; all = returned all_of rs; count = returned count rs };
      once = apart like rs;
    }

abbrev pub read_row : Parsed (List Return) → Option (Row × ℕ)
read_row x = read_by row_of x

-- one option as a row
abbrev pub row_one : Return → Row
row_one r = record { returns = returns_one r; once = true }

abbrev pub read_alone : List ℕ → ℕ → Option (Row × ℕ)
read_alone s p = read_by row_one (return_at s p)

-- a row put in front of another
abbrev pub join_rows : Row → Row → Row
join_rows a b =
    record {
      returns = record {
        min = a.returns.min || b.returns.min;
        max = a.returns.max || b.returns.max;
        all = a.returns.all || b.returns.all;
        count = a.returns.count || b.returns.count;
      };
      once =
          not (a.returns.min && b.returns.min || a.returns.max && b.returns.max || a.returns.all && b.returns.all || a.returns.count && b.returns.count)
          && (a.once && b.once);
    }

-- ---- what is to be returned
abbrev pub returns_of : List Return → Returns
returns_of rs =
    record { min = returned minimum rs; max = returned maximum rs; all = all_returned rs; count = returned count rs }

abbrev pub read_returns : Parsed (List Return) → Option (Returns × ℕ)
read_returns x = read_by returns_of x
