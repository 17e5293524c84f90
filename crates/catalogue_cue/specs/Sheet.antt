-- A cue sheet, what its lines mean, and what reading it says (SCOPE 6.1 to 6.10).
-- Assumes nothing.
use Rattle.std.specs.Prelude.{Bool, true, false, not, ◌&&◌, ◌||◌, List, [], ◌∷◌, map, ℕ, suc, ◌+◌, ◌-◌, ◌*◌, ◌/◌, eqb, leb, ltb, length, get_or}
use Prim.Native.Char.{code}
use Prim.Native.String.{String, [] as empty, ◌∷◌ as ◌then◌}
use Rattle.ground.specs.Cases.{pick, within}
use Rattle.ground.specs.Refusals.{Said, granted, Row, row, row_with, said_through}
use Rattle.catalogue_cue.specs.declared.Line.{Line}
use Rattle.catalogue_cue.specs.declared.Line.TheVariants.{Start, Passed, NotUnderstood}

-- SCOPE 6.2: "A sheet has at most 65,536 octets."
abbrev pub most_sheet : ℕ
most_sheet = 65536

-- the octets of a word, in ASCII
abbrev pub octets : String → List ℕ
octets empty = []
octets (c then word) = code c ∷ octets word

-- the octets LF, CR and space
abbrev pub lf : ℕ
lf = 10

abbrev pub cr : ℕ
cr = 13

abbrev pub space : ℕ
space = 32

-- an octet at the front of the first line
abbrev pub onto : ℕ → List (List ℕ) → List (List ℕ)
onto x [] = (x ∷ []) ∷ []
onto x (line ∷ more) = (x ∷ line) ∷ more

-- SCOPE 6.3: "Lines end in LF, in CR LF, or at the end of the text. A CR that does not stand directly before an LF belongs to its line."
unfoldable pub lines : List ℕ → List (List ℕ)
lines [] = [] ∷ []
lines (x ∷ s) =
    pick (eqb x lf) ([] ∷ lines s) (pick (eqb x cr && eqb (get_or s 0 0) lf) (lines s) (onto x (lines s)))

-- SCOPE 6.4: "Spaces at the front of a line are passed over, whatever the line is."
unfoldable pub unspaced : List ℕ → List ℕ
unspaced [] = []
unspaced (x ∷ s) = pick (eqb x space) (unspaced s) (x ∷ s)

-- the line begins with the word; capital letters count (SCOPE 6.8)
unfoldable pub begins : List ℕ → List ℕ → Bool
begins [] line = true
begins (w ∷ word) [] = false
begins (w ∷ word) (x ∷ line) = eqb x w && begins word line

-- two digits stand at a place, and the number that they are
abbrev pub is_digit : ℕ → Bool
is_digit x = within 0x30 0x39 x

unfoldable pub digits_at : List ℕ → ℕ → Bool
digits_at line at = is_digit (get_or line at 0) && is_digit (get_or line (at + 1) 0)

unfoldable pub number_at : List ℕ → ℕ → ℕ
number_at line at = (get_or line at 0 - 0x30) * 10 + (get_or line (at + 1) 0 - 0x30)

-- a colon stands at a place
abbrev pub colon_at : List ℕ → ℕ → Bool
colon_at line at = eqb (get_or line at 0) 0x3A

-- SCOPE 6.5: "A line `INDEX 01 mm:ss:ff`, exactly so to its end, gives a start. Each of mm, ss and ff is two digits, ss is at most 59, and ff at most 74."
-- Such a line has 17 octets.
unfoldable pub is_start : List ℕ → Bool
is_start line =
    eqb (length line) 17 && begins (octets "INDEX 01 ") line
    && digits_at line 9 && colon_at line 11 && digits_at line 12 && colon_at line 14 && digits_at line 15
    && leb (number_at line 12) 59 && leb (number_at line 15) 74

-- SCOPE 6.6: "The start is (60 times mm plus ss) times 100, plus the whole part of 4 times ff over 3."
unfoldable pub hundredths : ℕ → ℕ → ℕ → ℕ
hundredths mm ss ff = (60 * mm + ss) * 100 + 4 * ff / 3

unfoldable pub start_of : List ℕ → ℕ
start_of line = hundredths (number_at line 9) (number_at line 12) (number_at line 15)

-- SCOPE 6.7: "These lines are passed over: empty ones, those that begin with INDEX, one space and two digits other than 01, and those that begin with REM,
-- TITLE, PERFORMER, FILE or TRACK, whatever follows."
unfoldable pub is_other_index : List ℕ → Bool
is_other_index line = begins (octets "INDEX ") line && digits_at line 6 && not (eqb (number_at line 6) 1)

unfoldable pub is_passed : List ℕ → Bool
is_passed line =
    eqb (length line) 0
    || is_other_index line
    || begins (octets "REM") line
    || begins (octets "TITLE") line
    || begins (octets "PERFORMER") line
    || begins (octets "FILE") line
    || begins (octets "TRACK") line

-- what a line gives whose leading spaces are gone. SCOPE 6.8: "Every other line is not understood."
unfoldable pub meaning : List ℕ → Line
meaning line = pick (is_start line) (Start (start_of line)) (pick (is_passed line) Passed NotUnderstood)

-- what any line gives, and what all lines of a sheet give
unfoldable pub line_of : List ℕ → Line
line_of line = meaning (unspaced line)

abbrev pub sheet_lines : List ℕ → List Line
sheet_lines sheet = map line_of (lines sheet)

-- the starts, in the order of the lines (SCOPE 6.1)
unfoldable pub starts_of : List Line → List ℕ
starts_of [] = []
starts_of (Start n ∷ more) = n ∷ starts_of more
starts_of (Passed ∷ more) = starts_of more
starts_of (NotUnderstood ∷ more) = starts_of more

-- SCOPE 6.9: "The first start is 0, and each further start is above the one before." The starts before are given last one first.
abbrev pub may_follow : List ℕ → ℕ → Bool
may_follow [] start = eqb start 0
may_follow (last ∷ before) start = ltb last start

-- SCOPE 6.10: "by the lowest line that is either, 226 for a line that is not understood or 227 for a start that breaks 6.9, each carrying its line". One row
-- stands for both. The first of the lines has the number `number`.
unfoldable pub line_row : ℕ → List ℕ → List Line → Row
line_row number before [] = row 226 false
line_row number before (Passed ∷ more) = line_row (suc number) before more
line_row number before (NotUnderstood ∷ more) = row_with 226 (number ∷ []) true
line_row number before (Start n ∷ more) = pick (may_follow before n) (line_row (suc number) (n ∷ before) more) (row_with 227 (number ∷ []) true)

-- SCOPE 6.10: "225 where the sheet is too long"; then by the lowest line; "then 228 where there are more starts than room". Lines are counted from 1
-- (SCOPE 6.3).
abbrev pub cue_rows : List ℕ → ℕ → List Row
cue_rows sheet room =
    row 225 (ltb most_sheet (length sheet))
    ∷ line_row 1 [] (sheet_lines sheet)
    ∷ row 228 (ltb room (length (starts_of (sheet_lines sheet))))
    ∷ []

-- what reading a sheet into a table with so much room says: a refusal, or how many starts there are (SCOPE 6.1)
unfoldable pub cue_said : List ℕ → ℕ → Said
cue_said sheet room = said_through (cue_rows sheet room) (granted (length (starts_of (sheet_lines sheet)) ∷ []))
