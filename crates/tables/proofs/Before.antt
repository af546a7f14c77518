-- The two tables as they stood in the definitions before W-205, by the bit patterns of their binary64 numbers: ten rows of nine columns, both counted from 0.
-- That every coefficient is the same bits as before is `a_same_bits` and `b_same_bits` in proofs/Same.antt.
use mathlib.Core.List.{List, [], ◌∷◌}
use Prim.Native.Nat.{ℕ}
use lib.ListN.{get_or}

-- table A, Gauss-Jackson: what the position takes of each acceleration
unfoldable pub a_bits : List (List ℕ)
a_bits =
    (0x3faf44ea13ac1712 ∷ 0x3fb9b657df8b6b02 ∷ 0xbfcbe7466c206c2d ∷ 0x3fd35dd7e09869b8 ∷ 0xbfd26106b0bdcb37 ∷ 0x3fc7a2a32ab710cf ∷ 0xbfb3bc6b0017f516 ∷ 0x3f9359e34225a744 ∷ 0xbf60f07422ab2714 ∷ []) ∷
    (0xbf60f07422ab2714 ∷ 0x3fb46615b3962e87 ∷ 0x3f9a9f54e22b7c30 ∷ 0xbfa6aeb7fa7f238d ∷ 0x3fa5892c73bf7a07 ∷ 0xbf9b4545e9d50bfd ∷ 0x3f8670abd366d84d ∷ 0xbf65bd0b22ed23f6 ∷ 0x3f32d826c946d386 ∷ []) ∷
    (0x3f32d826c946d386 ∷ 0xbf7311cfe28d6a85 ∷ 0x3fb70c7b27e42445 ∷ 0x3f5e3a1f9fe86910 ∷ 0xbf8087c73175ad56 ∷ 0x3f77e3322cee0e7f ∷ 0xbf644c980d40b2f2 ∷ 0x3f43d8030f72a574 ∷ 0xbf113bf00faebff8 ∷ []) ∷
    (0xbf113bf00faebff8 ∷ 0x3f4ccf81764801b8 ∷ 0xbf7cc386eb5fb681 ∷ 0x3fb87665d92d7a05 ∷ 0xbf7a5f78b6e5efaa ∷ 0x3f2bce477e95e857 ∷ 0x3f344871858b289a ∷ 0xbf1d253f73835f84 ∷ 0x3eed253f73835f84 ∷ []) ∷
    (0x3eed253f73835f84 ∷ 0xbf2902ebb8d145b6 ∷ 0x3f569a3a93a0f3b9 ∷ 0xbf80c5d1aa29a216 ∷ 0x3fb8e92883044f4d ∷ 0xbf80c5d1aa29a216 ∷ 0x3f569a3a93a0f3b9 ∷ 0xbf2902ebb8d145b6 ∷ 0x3eed253f73835f84 ∷ []) ∷
    (0x3eed253f73835f84 ∷ 0xbf1d253f73835f84 ∷ 0x3f344871858b289a ∷ 0x3f2bce477e95e857 ∷ 0xbf7a5f78b6e5efaa ∷ 0x3fb87665d92d7a05 ∷ 0xbf7cc386eb5fb681 ∷ 0x3f4ccf81764801b8 ∷ 0xbf113bf00faebff8 ∷ []) ∷
    (0xbf113bf00faebff8 ∷ 0x3f43d8030f72a574 ∷ 0xbf644c980d40b2f2 ∷ 0x3f77e3322cee0e7f ∷ 0xbf8087c73175ad56 ∷ 0x3f5e3a1f9fe86910 ∷ 0x3fb70c7b27e42445 ∷ 0xbf7311cfe28d6a85 ∷ 0x3f32d826c946d386 ∷ []) ∷
    (0x3f32d826c946d386 ∷ 0xbf65bd0b22ed23f6 ∷ 0x3f8670abd366d84d ∷ 0xbf9b4545e9d50bfd ∷ 0x3fa5892c73bf7a07 ∷ 0xbfa6aeb7fa7f238d ∷ 0x3f9a9f54e22b7c30 ∷ 0x3fb46615b3962e87 ∷ 0xbf60f07422ab2714 ∷ []) ∷
    (0xbf60f07422ab2714 ∷ 0x3f9359e34225a744 ∷ 0xbfb3bc6b0017f516 ∷ 0x3fc7a2a32ab710cf ∷ 0xbfd26106b0bdcb37 ∷ 0x3fd35dd7e09869b8 ∷ 0xbfcbe7466c206c2d ∷ 0x3fb9b657df8b6b02 ∷ 0x3faf44ea13ac1712 ∷ []) ∷
    (0x3faf44ea13ac1712 ∷ 0xbfe1a7b41f337821 ∷ 0x4001bd7771951849 ∷ 0xc014d42b48e94ef8 ∷ 0x401f84eb84b31f3c ∷ 0xc01fede6d6694369 ∷ 0x4015bb171af275bf ∷ 0xc003553811d2d3bd ∷ 0x3fe4cd8ea7023a5a ∷ []) ∷
    []

-- table B, summed Adams: what the velocity takes of each acceleration
unfoldable pub b_bits : List (List ℕ)
b_bits =
    (0xbfd25dce434a9b10 ∷ 0xbfe2d94005c778e9 ∷ 0x3feed9359ebaa1b5 ∷ 0xbff3daafde311645 ∷ 0x3ff23fc06dcdf950 ∷ 0xbfe711f8cfe80430 ∷ 0x3fd3100d00d00d01 ∷ 0xbfb28f294d9a8a04 ∷ 0x3f8029f8aaeb64c2 ∷ []) ∷
    (0x3f8029f8aaeb64c2 ∷ 0xbfd6e99c335ccf67 ∷ 0xbfd383484b462079 ∷ 0x3fd3443e7ccb5aef ∷ 0xbfcf8af8af8af8b0 ∷ 0x3fc2b37d2c721117 ∷ 0xbfadae26f930ff27 ∷ 0x3f8c1aa810e774de ∷ 0xbf57fc63546e2a71 ∷ []) ∷
    (0xbf57fc63546e2a71 ∷ 0x3f9592f434f3aa40 ∷ 0xbfda491a2b3c4d5e ∷ 0xbfc748ef6723f517 ∷ 0x3fbdd81664f4882c ∷ 0xbfafba1ba1ba1ba2 ∷ 0x3f97aedfe84e29dd ∷ 0xbf7591b9d1a87b3e ∷ 0x3f41eb851eb851ec ∷ []) ∷
    (0x3f41eb851eb851ec ∷ 0xbf7a280e97aae6c5 ∷ 0x3fa4ddf4fbc18335 ∷ 0xbfdd39be02468acf ∷ 0xbfbcee07c40a798b ∷ 0x3fa8687eb56e2f10 ∷ 0xbf9069f9d2d06039 ∷ 0x3f6c2f512df66da0 ∷ 0xbf368c40f191f14d ∷ []) ∷
    (0xbf368c40f191f14d ∷ 0x3f6dd8aa577243f1 ∷ 0xbf9338e82dccd16c ∷ 0x3fb1d4ffcd24a4c7 ∷ 0xbfe0000000000000 ∷ 0xbfb1d4ffcd24a4c7 ∷ 0x3f9338e82dccd16c ∷ 0xbf6dd8aa577243f1 ∷ 0x3f368c40f191f14d ∷ []) ∷
    (0x3f368c40f191f14d ∷ 0xbf6c2f512df66da0 ∷ 0x3f9069f9d2d06039 ∷ 0xbfa8687eb56e2f10 ∷ 0x3fbcee07c40a798b ∷ 0xbfe16320fedcba98 ∷ 0xbfa4ddf4fbc18335 ∷ 0x3f7a280e97aae6c5 ∷ 0xbf41eb851eb851ec ∷ []) ∷
    (0xbf41eb851eb851ec ∷ 0x3f7591b9d1a87b3e ∷ 0xbf97aedfe84e29dd ∷ 0x3fafba1ba1ba1ba2 ∷ 0xbfbdd81664f4882c ∷ 0x3fc748ef6723f517 ∷ 0xbfe2db72ea61d951 ∷ 0xbf9592f434f3aa40 ∷ 0x3f57fc63546e2a71 ∷ []) ∷
    (0x3f57fc63546e2a71 ∷ 0xbf8c1aa810e774de ∷ 0x3fadae26f930ff27 ∷ 0xbfc2b37d2c721117 ∷ 0x3fcf8af8af8af8b0 ∷ 0xbfd3443e7ccb5aef ∷ 0x3fd383484b462079 ∷ 0xbfe48b31e651984d ∷ 0xbf8029f8aaeb64c2 ∷ []) ∷
    (0xbf8029f8aaeb64c2 ∷ 0x3fb28f294d9a8a04 ∷ 0xbfd3100d00d00d01 ∷ 0x3fe711f8cfe80430 ∷ 0xbff23fc06dcdf950 ∷ 0x3ff3daafde311645 ∷ 0xbfeed9359ebaa1b5 ∷ 0x3fe2d94005c778e9 ∷ 0xbfe6d118de5ab278 ∷ []) ∷
    (0x3fd25dce434a9b10 ∷ 0xc004b9b2045ed9d7 ∷ 0x4024cea65e4f2386 ∷ 0xc038675eec552bb9 ∷ 0x4042709eed7d10b5 ∷ 0xc042a6550dabe06e ∷ 0x403958c9b634fce9 ∷ 0xc026971b659f988d ∷ 0x40095fd80d25ccac ∷ []) ∷
    []

-- the pattern in row i and column k of a table; outside it 0, which is the pattern of 0.0
unfoldable pub entry : List (List ℕ) → ℕ → ℕ → ℕ
entry t i k = get_or (get_or t i []) k 0
