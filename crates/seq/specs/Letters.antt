-- Bytes by the letters that they stand for. A reader has to believe this file. Assumes nothing.
use Rattle.std.specs.Prelude.{ℕ}

abbrev pub A : ℕ
A = 65

abbrev pub D : ℕ
D = 68

abbrev pub E : ℕ
E = 69

abbrev pub H : ℕ
H = 72

abbrev pub I : ℕ
I = 73

abbrev pub K : ℕ
K = 75

abbrev pub L : ℕ
L = 76

abbrev pub N : ℕ
N = 78

abbrev pub O : ℕ
O = 79

abbrev pub T : ℕ
T = 84

abbrev pub X : ℕ
X = 88

abbrev pub Z : ℕ
Z = 90

abbrev pub a : ℕ
a = 97

abbrev pub z : ℕ
z = 122

-- the digits from first to last
abbrev pub nought : ℕ
nought = 48

abbrev pub nine : ℕ
nine = 57

abbrev pub hyphen : ℕ
hyphen = 45

abbrev pub underscore : ℕ
underscore = 95

-- a dot, and a slash
abbrev pub dot : ℕ
dot = 46

abbrev pub solidus : ℕ
solidus = 47
