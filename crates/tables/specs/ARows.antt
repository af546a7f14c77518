-- 02, W-205: "Store rows 4 to 9 of each table": those of table A, Gauss-Jackson, what the position takes of each acceleration. They are the module's decimals, in
-- its order and in that of src/a_rows.rt; `_` stands where the point does. Rows and columns are counted from 0, as in 01: the module's rows 0 to 5, and its columns -4 to 4.
use Rattle.std.specs.Prelude.{List, [], ◌∷◌}
use Rattle.double.specs.Fraction.{Fraction, minus◌}
use Rattle.double.specs.Decimal.{◌e-◌, ◌e+◌}

abbrev pub a4 : List Fraction
a4 =
    1_3897657126823793 e- 5 ∷
    minus 1_9082190957190958 e- 4 ∷
    1_379544452461119 e- 3 ∷
    minus 8_189809804393138 e- 3 ∷
    9_730771254208755 e- 2 ∷
    minus 8_189809804393138 e- 3 ∷
    1_379544452461119 e- 3 ∷
    minus 1_9082190957190958 e- 4 ∷
    1_3897657126823793 e- 5 ∷
    []

abbrev pub a5 : List Fraction
a5 =
    1_3897657126823793 e- 5 ∷
    minus 1_1118125701459035 e- 4 ∷
    3_09493746993747 e- 4 ∷
    2_121412538079205 e- 4 ∷
    minus 6_43870500641334 e- 3 ∷
    9_555660774410775 e- 2 ∷
    minus 7_02240660573994 e- 3 ∷
    8_792287958954625 e- 4 ∷
    minus 6_574299543049544 e- 5 ∷
    []

abbrev pub a6 : List Fraction
a6 =
    minus 6_574299543049544 e- 5 ∷
    6_055846160012827 e- 4 ∷
    minus 2_477929092512426 e- 3 ∷
    5_831905363155364 e- 3 ∷
    minus 8_071476170434504 e- 3 ∷
    1_8449124178290845 e- 3 ∷
    9_003419612794612 e- 2 ∷
    minus 4_655658770242104 e- 3 ∷
    2_875418370210037 e- 4 ∷
    []

abbrev pub a7 : List Fraction
a7 =
    2_875418370210037 e- 4 ∷
    minus 2_6536195286195287 e- 3 ∷
    1_0957090748757415 e- 2 ∷
    minus 2_6631443402276734 e- 2 ∷
    4_206217682780183 e- 2 ∷
    minus 4_430174763508097 e- 2 ∷
    2_5998426727593393 e- 2 ∷
    7_968268999519 e- 2 ∷
    minus 2_0677822370530705 e- 3 ∷
    []

abbrev pub a8 : List Fraction
a8 =
    minus 2_0677822370530705 e- 3 ∷
    1_8897581970498636 e- 2 ∷
    minus 7_709378006253007 e- 2 ∷
    1_8465079866121534 e- 1 ∷
    minus 2_871720052709636 e- 1 ∷
    3_026027386964887 e- 1 ∷
    minus 2_1799545554753888 e- 1 ∷
    1_0043858726150392 e- 1 ∷
    6_107264986171236 e- 2 ∷
    []

abbrev pub a9 : List Fraction
a9 =
    6_107264986171236 e- 2 ∷
    minus 5_517216309924643 e- 1 ∷
    2_217512976992144 e+ 0 ∷
    minus 5_207196368446368 e+ 0 ∷
    7_879804681236973 e+ 0 ∷
    minus 7_982325887846721 e+ 0 ∷
    5_432705327080327 e+ 0 ∷
    minus 2_416610850569184 e+ 0 ∷
    6_500924360169151 e- 1 ∷
    []
