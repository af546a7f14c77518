-- 02, W-205: "Store rows 4 to 9 of each table and the nine diagonal values of B": those of table B, summed Adams, what the velocity takes of each acceleration. They
-- are the module's decimals, in the order of src/b_rows.rt; `_` stands where the point does. Rows and columns are counted from 0, as in 01.
use Rattle.std.specs.Prelude.{List, [], ◌∷◌, ℕ, pos, get_or}
use Rattle.double.specs.Fraction.{Fraction, whole, minus◌}
use Rattle.double.specs.Decimal.{◌e-◌, ◌e+◌}

-- row i, column i, for i from 0 to 8
abbrev pub diagonal : List Fraction
diagonal =
    minus 2_869754464285714 e- 1 ∷
    minus 3_5800843253968256 e- 1 ∷
    minus 4_1071180555555553 e- 1 ∷
    minus 4_5664930555555555 e- 1 ∷
    minus 5 e- 1 ∷
    minus 5_433506944444444 e- 1 ∷
    minus 5_892881944444445 e- 1 ∷
    minus 6_419915674603175 e- 1 ∷
    minus 7_130245535714286 e- 1 ∷
    []

abbrev pub on_diagonal : ℕ → Fraction
on_diagonal i = get_or diagonal i (whole (pos 0))

abbrev pub b4 : List Fraction
b4 =
    minus 3_4405313051146387 e- 4 ∷
    3_6433531746031746 e- 3 ∷
    minus 1_8771770282186948 e- 2 ∷
    6_965636022927689 e- 2 ∷
    on_diagonal 4 ∷
    minus 6_965636022927689 e- 2 ∷
    1_8771770282186948 e- 2 ∷
    minus 3_6433531746031746 e- 3 ∷
    3_4405313051146387 e- 4 ∷
    []

abbrev pub b5 : List Fraction
b5 =
    3_4405313051146387 e- 4 ∷
    minus 3_4405313051146386 e- 3 ∷
    1_6029265873015872 e- 2 ∷
    minus 4_767223324514991 e- 2 ∷
    1_1300705467372134 e- 1 ∷
    on_diagonal 5 ∷
    minus 4_0755897266313935 e- 2 ∷
    6_38585758377425 e- 3 ∷
    minus 5_46875 e- 4 ∷
    []

abbrev pub b6 : List Fraction
b6 =
    minus 5_46875 e- 4 ∷
    5_265928130511464 e- 3 ∷
    minus 2_312803130511464 e- 2 ∷
    6_1966765873015875 e- 2 ∷
    minus 1_1657848324514991 e- 1 ∷
    1_8191330467372133 e- 1 ∷
    on_diagonal 6 ∷
    minus 2_1068397266313932 e- 2 ∷
    1_4639825837742505 e- 3 ∷
    []

abbrev pub b7 : List Fraction
b7 =
    1_4639825837742505 e- 3 ∷
    minus 1_3722718253968254 e- 2 ∷
    5_796930114638448 e- 2 ∷
    minus 1_461025683421517 e- 1 ∷
    2_4642857142857144 e- 1 ∷
    minus 3_010402888007055 e- 1 ∷
    3_048878417107584 e- 1 ∷
    on_diagonal 7 ∷
    minus 7_89255401234568 e- 3 ∷
    []

abbrev pub b8 : List Fraction
b8 =
    minus 7_89255401234568 e- 3 ∷
    7_249696869488536 e- 2 ∷
    minus 2_978546626984127 e- 1 ∷
    7_209438381834215 e- 1 ∷
    minus 1_140564373897707 e+ 0 ∷
    1_240890376984127 e+ 0 ∷
    minus 9_640148258377425 e- 1 ∷
    5_890197861552028 e- 1 ∷
    on_diagonal 8 ∷
    []

abbrev pub b9 : List Fraction
b9 =
    2_869754464285714 e- 1 ∷
    minus 2_5906715718694886 e+ 0 ∷
    1_0403613040123456 e+ 1 ∷
    minus 2_4403792162698412 e+ 1 ∷
    3_6879850088183424 e+ 1 ∷
    minus 3_7299470623897705 e+ 1 ∷
    2_5346827876984125 e+ 1 ∷
    minus 1_1295130897266313 e+ 1 ∷
    3_1717988040123455 e+ 0 ∷
    []
