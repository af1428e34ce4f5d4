-- The word table, a row for each word.
use Rattle.std.specs.Prelude.{◌∷◌, [], List, ℕ, ◌+◌, pos, Some, None}
use Rattle.word_table.specs.declared.word.Word.{Word}
use Rattle.word_table.specs.declared.word.Word.TheVariants.{Dup, DropTop, Swap, Over, Rot, TwoDup, TwoDrop, Plus, Minus, Negate, OnePlus, OneMinus, TwoStar, And, Or, Xor, Invert, LShift, RShift, Equal}
use Rattle.word_table.specs.declared.word.Word.TheVariants.{Less, Greater, ULess, ZeroEqual, ZeroLess, SToD, Cells, CellPlus, Chars, CharPlus, Aligned, Fetch, Store, Emit, Key, Blank, Cr, Space, Base}
use Rattle.word_table.specs.declared.word.Word.TheVariants.{Here, Decimal, Depth, AbortRun, Quit, ToR, RFrom, RFetch, Index, OuterIndex, Unloop, QDup, TwoSwap, TwoOver, Abs, Max, Min, TwoSlash, CFetch}
use Rattle.word_table.specs.declared.word.Word.TheVariants.{CStore, PlusStore, TwoFetch, TwoStore, Count, Comma, CComma, Allot, Align, UMStar, MStar, Star, UMSlashMod, SMSlashRem, FMSlashMod, SlashMod}
use Rattle.word_table.specs.declared.word.Word.TheVariants.{Slash, Mod, StarSlashMod, StarSlash, LessSharp, Hold, Sign, Sharp, SharpS, SharpGreater, Dot, UDot, TypeOut, Spaces, Fill, Move, Accept}
use Rattle.word_table.specs.declared.word.Word.TheVariants.{ToNumber, Execute, Go, SQuote, DotQuote, AbortQuote, If, While, Until, Else, Repeat, Then, Begin, Do, Loop, PlusLoop, Leave, Exit, Semicolon}
use Rattle.word_table.specs.declared.word.Word.TheVariants.{Recurse, BracketTick, BracketChar, Literal, LeftBracket, RightBracket, Paren, Backslash, Colon, Tick, Char, Constant, Variable, Create, Does}
use Rattle.word_table.specs.declared.word.Word.TheVariants.{ToBody, QDo, Again, Case, Of, EndOf, EndCase, Nip, Tuck, ZeroGreater, NotEqual, Within, Hex, CodeCells}
use Rattle.word_table.specs.declared.word.WordEntry.{WordEntry}
use Rattle.word_table.specs.Row.{Row, change, inline, never, on_returns, library, structure, host}

-- the table
abbrev pub row : Word → Row
-- ---- inline words: taken, left, peak, back, cells
row Dup = inline "DUP" 1 2 1 0 (0x6081 ∷ [])
row DropTop = inline "DROP" 1 0 0 0 (0x6103 ∷ [])
row Swap = inline "SWAP" 2 2 0 0 (0x6180 ∷ [])
row Over = inline "OVER" 2 3 1 0 (0x6181 ∷ [])
row Rot = inline "ROT" 3 3 0 1 (0x6147 ∷ 0x6180 ∷ 0x6B8D ∷ 0x6180 ∷ [])
row TwoDup = inline "2DUP" 2 4 2 0 (0x6181 ∷ 0x6181 ∷ [])
row TwoDrop = inline "2DROP" 2 0 0 0 (0x6103 ∷ 0x6103 ∷ [])
row Nip = inline "NIP" 2 1 0 0 (0x6003 ∷ [])
row Tuck = inline "TUCK" 2 3 1 0 (0x6180 ∷ 0x6181 ∷ [])
row Plus = inline "+" 2 1 0 0 (0x6203 ∷ [])
row Minus = inline "-" 2 1 0 0 (0x6600 ∷ 0x6203 ∷ 0x8001 ∷ 0x6203 ∷ [])
row Negate = inline "NEGATE" 1 1 1 0 (0x6600 ∷ 0x8001 ∷ 0x6203 ∷ [])
row OnePlus = inline "1+" 1 1 1 0 (0x8001 ∷ 0x6203 ∷ [])
row OneMinus = inline "1-" 1 1 0 0 (0x6A00 ∷ [])
row TwoStar = inline "2*" 1 1 1 0 (0x8001 ∷ 0x6D03 ∷ [])
row And = inline "AND" 2 1 0 0 (0x6303 ∷ [])
row Or = inline "OR" 2 1 0 0 (0x6403 ∷ [])
row Xor = inline "XOR" 2 1 0 0 (0x6503 ∷ [])
row Invert = inline "INVERT" 1 1 0 0 (0x6600 ∷ [])
row LShift = inline "LSHIFT" 2 1 0 0 (0x6D03 ∷ [])
row RShift = inline "RSHIFT" 2 1 0 0 (0x6903 ∷ [])
row Equal = inline "=" 2 1 0 0 (0x6703 ∷ [])
row Less = inline "<" 2 1 0 0 (0x6803 ∷ [])
row Greater = inline ">" 2 1 0 0 (0x6180 ∷ 0x6803 ∷ [])
row ULess = inline "U<" 2 1 0 0 (0x6F03 ∷ [])
row ZeroEqual = inline "0=" 1 1 1 0 (0x8000 ∷ 0x6703 ∷ [])
row ZeroLess = inline "0<" 1 1 1 0 (0x8000 ∷ 0x6803 ∷ [])
row SToD = inline "S>D" 1 2 2 0 (0x6081 ∷ 0x8000 ∷ 0x6803 ∷ [])
row ZeroGreater = inline "0>" 1 1 1 0 (0x8000 ∷ 0x6180 ∷ 0x6803 ∷ [])
row NotEqual = inline "<>" 2 1 0 0 (0x6703 ∷ 0x6600 ∷ [])
row Within = inline "WITHIN" 3 1 1 1 (0x6181 ∷ 0x6600 ∷ 0x6203 ∷ 0x8001 ∷ 0x6203 ∷ 0x6147 ∷ 0x6600 ∷ 0x6203 ∷ 0x8001 ∷ 0x6203 ∷ 0x6B8D ∷ 0x6F03 ∷ [])
row Cells = inline "CELLS" 1 1 1 0 (0x8001 ∷ 0x6D03 ∷ [])
row CellPlus = inline "CELL+" 1 1 1 0 (0x8002 ∷ 0x6203 ∷ [])
row Chars = inline "CHARS" 1 1 0 0 []
row CharPlus = inline "CHAR+" 1 1 1 0 (0x8001 ∷ 0x6203 ∷ [])
row Aligned = inline "ALIGNED" 1 1 1 0 (0x8001 ∷ 0x6203 ∷ 0x8001 ∷ 0x6600 ∷ 0x6303 ∷ [])
row Fetch = inline "@" 1 1 0 0 (0x6C00 ∷ [])
row Store = inline "!" 2 0 0 0 (0x6023 ∷ 0x6103 ∷ [])
row Emit = inline "EMIT" 1 0 1 0 (0xC000 ∷ 0x6023 ∷ 0x6103 ∷ [])
row Key = inline "KEY" 0 1 1 0 (0xC002 ∷ 0x6C00 ∷ [])
row Blank = inline "BL" 0 1 1 0 (0x8020 ∷ [])
row Cr = inline "CR" 0 0 2 0 (0x800A ∷ 0xC000 ∷ 0x6023 ∷ 0x6103 ∷ [])
row Space = inline "SPACE" 0 0 2 0 (0x8020 ∷ 0xC000 ∷ 0x6023 ∷ 0x6103 ∷ [])
row Base = inline "BASE" 0 1 1 0 (0xA000 ∷ [])
row Here = inline "HERE" 0 1 1 0 (0xA004 ∷ 0x6C00 ∷ [])
row Decimal = inline "DECIMAL" 0 0 2 0 (0x800A ∷ 0xA000 ∷ 0x6023 ∷ 0x6103 ∷ [])
row Depth = inline "DEPTH" 0 1 2 0 (0x6E81 ∷ 0x801F ∷ 0x6303 ∷ [])
row Hex = inline "HEX" 0 0 2 0 (0x8010 ∷ 0xA000 ∷ 0x6023 ∷ 0x6103 ∷ [])
row AbortRun = never "ABORT" 0 2 0 (0x8001 ∷ 0xC004 ∷ 0x6023 ∷ [])
row Quit = never "QUIT" 0 2 0 (0x8003 ∷ 0xC004 ∷ 0x6023 ∷ [])
-- ---- words on return entries, of class structure
row ToR = on_returns ">R" 1 0 0 0 (0x6147 ∷ [])
row RFrom = on_returns "R>" 0 1 1 0 (0x6B8D ∷ [])
row RFetch = on_returns "R@" 0 1 1 0 (0x6B81 ∷ [])
row Index = on_returns "I" 0 1 3 0 (0x6B8D ∷ 0x6B81 ∷ 0x6181 ∷ 0x6147 ∷ 0x6203 ∷ [])
row OuterIndex = on_returns "J" 0 1 5 0 (0x6B8D ∷ 0x6B8D ∷ 0x6B8D ∷ 0x6B81 ∷ 0x6181 ∷ 0x6203 ∷ 0x6180 ∷ 0x6147 ∷ 0x6180 ∷ 0x6147 ∷ 0x6180 ∷ 0x6147 ∷ [])
row Unloop = on_returns "UNLOOP" 0 0 1 0 (0x6B8D ∷ 0x6103 ∷ 0x6B8D ∷ 0x6103 ∷ [])
-- ---- library words: need, change, peak, back, price, price for each of the count
row QDup = library "?DUP" 1 (Some (pos 0, pos 1)) 2 2 12 0
row TwoSwap = library "2SWAP" 4 (change 4 4) 2 4 24 0
row TwoOver = library "2OVER" 4 (change 4 6) 4 6 48 0
row Abs = library "ABS" 1 (change 1 1) 3 2 20 0
row Max = library "MAX" 2 (change 2 1) 3 2 20 0
row Min = library "MIN" 2 (change 2 1) 3 2 20 0
row TwoSlash = library "2/" 1 (change 1 1) 3 2 24 0
row CFetch = library "C@" 1 (change 1 1) 4 2 24 0
row CStore = library "C!" 2 (change 2 0) 5 4 48 0
row PlusStore = library "+!" 2 (change 2 0) 3 3 24 0
row TwoFetch = library "2@" 1 (change 1 2) 3 2 16 0
row TwoStore = library "2!" 3 (change 3 0) 3 2 20 0
row Count = library "COUNT" 1 (change 1 2) 6 4 40 0
row Comma = library "," 1 (change 1 0) 5 5 48 0
row CComma = library "C," 1 (change 1 0) 7 6 96 0
row Allot = library "ALLOT" 1 (change 1 0) 5 5 40 0
row Align = library "ALIGN" 0 (change 0 0) 5 4 32 0
row UMStar = library "UM*" 2 (change 2 2) 6 5 1100 0
row MStar = library "M*" 2 (change 2 2) 8 7 1400 0
row Star = library "*" 2 (change 2 1) 8 6 1200 0
row UMSlashMod = library "UM/MOD" 3 (change 3 2) 6 5 2400 0
row SMSlashRem = library "SM/REM" 3 (change 3 2) 8 7 3000 0
row FMSlashMod = library "FM/MOD" 3 (change 3 2) 10 8 3200 0
row SlashMod = library "/MOD" 2 (change 2 2) 12 10 3600 0
row Slash = library "/" 2 (change 2 1) 12 11 3700 0
row Mod = library "MOD" 2 (change 2 1) 12 11 3700 0
row StarSlashMod = library "*/MOD" 3 (change 3 2) 12 11 5200 0
row StarSlash = library "*/" 3 (change 3 1) 12 12 5300 0
row LessSharp = library "<#" 0 (change 0 0) 3 2 20 0
row Hold = library "HOLD" 1 (change 1 0) 8 6 140 0
row Sign = library "SIGN" 1 (change 1 0) 9 7 180 0
row Sharp = library "#" 2 (change 2 2) 10 9 6000 0
row SharpS = library "#S" 2 (change 2 2) 11 10 200000 0
row SharpGreater = library "#>" 2 (change 2 2) 3 2 20 0
row Dot = library "." 1 (change 1 0) 14 12 120000 0
row UDot = library "U." 1 (change 1 0) 14 12 120000 0
row TypeOut = library "TYPE" 2 (change 2 0) 8 6 40 80
row Spaces = library "SPACES" 1 (change 1 0) 5 4 40 40
row Fill = library "FILL" 3 (change 3 0) 8 8 40 120
row Move = library "MOVE" 3 (change 3 0) 10 8 80 160
row Accept = library "ACCEPT" 2 (change 2 1) 8 8 100 120
row ToNumber = library ">NUMBER" 4 (change 4 4) 12 10 100 3200
row Execute = library "EXECUTE" 1 None 4 3 30 0
row Go = library "GO" 1 (change 1 0) 24 18 3 0
-- ---- structure words: taken, left, peak, back, price, price for each of the count, weight
row SQuote = structure "S\"" 0 2 2 0 2 0 2
row DotQuote = structure ".\"" 0 0 10 7 42 80 3
row AbortQuote = structure "ABORT\"" 1 0 11 8 40 80 3
row If = structure "IF" 1 0 0 0 1 0 1
row While = structure "WHILE" 1 0 0 0 1 0 1
row Until = structure "UNTIL" 1 0 0 0 1 0 1
row Else = structure "ELSE" 0 0 0 0 1 0 1
row Repeat = structure "REPEAT" 0 0 0 0 1 0 1
row Then = structure "THEN" 0 0 0 0 0 0 0
row Begin = structure "BEGIN" 0 0 0 0 0 0 0
row Do = structure "DO" 2 0 1 0 8 0 8
row Loop = structure "LOOP" 0 0 2 0 12 0 12
row PlusLoop = structure "+LOOP" 1 0 4 0 24 0 24
row QDo = structure "?DO" 2 0 2 0 12 0 15
row Again = structure "AGAIN" 0 0 0 0 1 0 1
row Case = structure "CASE" 0 0 0 0 0 0 0
row Of = structure "OF" 2 2 1 0 4 0 4
row EndOf = structure "ENDOF" 0 0 0 0 1 0 1
row EndCase = structure "ENDCASE" 1 0 0 0 1 0 1
row Leave = structure "LEAVE" 0 0 1 0 5 0 5
row Exit = structure "EXIT" 0 0 0 0 1 0 1
row Semicolon = structure ";" 0 0 0 0 1 0 1
row Recurse = structure "RECURSE" 0 0 0 0 1 0 1
row BracketTick = structure "[']" 0 1 1 0 2 0 2
row BracketChar = structure "[CHAR]" 0 1 1 0 2 0 2
row Literal = structure "LITERAL" 0 1 1 0 2 0 2
row LeftBracket = structure "[" 0 0 0 0 0 0 0
row RightBracket = structure "]" 0 0 0 0 0 0 0
row Paren = structure "(" 0 0 0 0 0 0 0
row Backslash = structure "\\" 0 0 0 0 0 0 0
-- ---- host words
row Colon = host ":"
row Tick = host "'"
row Char = host "CHAR"
row Constant = host "CONSTANT"
row Variable = host "VARIABLE"
row Create = host "CREATE"
row Does = host "DOES>"
row ToBody = host ">BODY"
row CodeCells = host "CODE-CELLS"

-- what the table says of a word's effect, price and weight
abbrev pub entry_of : Word → WordEntry
entry_of word = (row word).entry

-- the cells of a word that stands in an image as it is
abbrev pub cells_of : Word → List ℕ
cells_of word = (row word).cells

-- the same in an image whose data space begins at an address: BASE is there, and HERE four bytes on. The table has them for 0x2000
abbrev pub cells_from : ℕ → Word → List ℕ
cells_from data_start Base = (0x8000 + data_start) ∷ []
cells_from data_start Here = (0x8000 + (data_start + 4)) ∷ 0x6C00 ∷ []
cells_from data_start Decimal = 0x800A ∷ (0x8000 + data_start) ∷ 0x6023 ∷ 0x6103 ∷ []
cells_from data_start Hex = 0x8010 ∷ (0x8000 + data_start) ∷ 0x6023 ∷ 0x6103 ∷ []
cells_from data_start word = cells_of word
