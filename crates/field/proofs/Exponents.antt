-- The tables of exponents and logarithms, and that a sum of exponents is a product.
use Rattle.std.proofs.Common.{◌≡◌, ℕ, zero, suc, ◌+◌, ◌-◌, ◌*◌, ◌/◌, ◌%◌, ◌<◌, Bool, true, T, eqb, ltb, List, [], ◌∷◌, ◌++◌, length, get_or, sym, refl, ap, ◌∙◌, lt_trans, le_of_suc-le-suc, not-suc-le-zero, mod-lt, suc-add, zero-add, arith, lit<, eqb→eq, ltb→lt}
use Rattle.std.proofs.lemmas.List.{get_or_append_left, get_or-append-add}
use Rattle.field.specs.Arithmetic.{gmul, inverse}
use Rattle.field.specs.Tested.{both, both_left, both_right, at}
use Rattle.field.specs.Products.{gmul_assoc, gmul_comm, gmul_lt, gmul_one_l, inverse_one}
use Rattle.field.specs.Powers.{raised}

-- the two tables, in rows of eight as the code has them
unfoldable pub exps : List (List ℕ)
exps =
    (1 ∷ 2 ∷ 4 ∷ 8 ∷ 16 ∷ 32 ∷ 64 ∷ 128 ∷ [])
    ∷ (29 ∷ 58 ∷ 116 ∷ 232 ∷ 205 ∷ 135 ∷ 19 ∷ 38 ∷ [])
    ∷ (76 ∷ 152 ∷ 45 ∷ 90 ∷ 180 ∷ 117 ∷ 234 ∷ 201 ∷ [])
    ∷ (143 ∷ 3 ∷ 6 ∷ 12 ∷ 24 ∷ 48 ∷ 96 ∷ 192 ∷ [])
    ∷ (157 ∷ 39 ∷ 78 ∷ 156 ∷ 37 ∷ 74 ∷ 148 ∷ 53 ∷ [])
    ∷ (106 ∷ 212 ∷ 181 ∷ 119 ∷ 238 ∷ 193 ∷ 159 ∷ 35 ∷ [])
    ∷ (70 ∷ 140 ∷ 5 ∷ 10 ∷ 20 ∷ 40 ∷ 80 ∷ 160 ∷ [])
    ∷ (93 ∷ 186 ∷ 105 ∷ 210 ∷ 185 ∷ 111 ∷ 222 ∷ 161 ∷ [])
    ∷ (95 ∷ 190 ∷ 97 ∷ 194 ∷ 153 ∷ 47 ∷ 94 ∷ 188 ∷ [])
    ∷ (101 ∷ 202 ∷ 137 ∷ 15 ∷ 30 ∷ 60 ∷ 120 ∷ 240 ∷ [])
    ∷ (253 ∷ 231 ∷ 211 ∷ 187 ∷ 107 ∷ 214 ∷ 177 ∷ 127 ∷ [])
    ∷ (254 ∷ 225 ∷ 223 ∷ 163 ∷ 91 ∷ 182 ∷ 113 ∷ 226 ∷ [])
    ∷ (217 ∷ 175 ∷ 67 ∷ 134 ∷ 17 ∷ 34 ∷ 68 ∷ 136 ∷ [])
    ∷ (13 ∷ 26 ∷ 52 ∷ 104 ∷ 208 ∷ 189 ∷ 103 ∷ 206 ∷ [])
    ∷ (129 ∷ 31 ∷ 62 ∷ 124 ∷ 248 ∷ 237 ∷ 199 ∷ 147 ∷ [])
    ∷ (59 ∷ 118 ∷ 236 ∷ 197 ∷ 151 ∷ 51 ∷ 102 ∷ 204 ∷ [])
    ∷ (133 ∷ 23 ∷ 46 ∷ 92 ∷ 184 ∷ 109 ∷ 218 ∷ 169 ∷ [])
    ∷ (79 ∷ 158 ∷ 33 ∷ 66 ∷ 132 ∷ 21 ∷ 42 ∷ 84 ∷ [])
    ∷ (168 ∷ 77 ∷ 154 ∷ 41 ∷ 82 ∷ 164 ∷ 85 ∷ 170 ∷ [])
    ∷ (73 ∷ 146 ∷ 57 ∷ 114 ∷ 228 ∷ 213 ∷ 183 ∷ 115 ∷ [])
    ∷ (230 ∷ 209 ∷ 191 ∷ 99 ∷ 198 ∷ 145 ∷ 63 ∷ 126 ∷ [])
    ∷ (252 ∷ 229 ∷ 215 ∷ 179 ∷ 123 ∷ 246 ∷ 241 ∷ 255 ∷ [])
    ∷ (227 ∷ 219 ∷ 171 ∷ 75 ∷ 150 ∷ 49 ∷ 98 ∷ 196 ∷ [])
    ∷ (149 ∷ 55 ∷ 110 ∷ 220 ∷ 165 ∷ 87 ∷ 174 ∷ 65 ∷ [])
    ∷ (130 ∷ 25 ∷ 50 ∷ 100 ∷ 200 ∷ 141 ∷ 7 ∷ 14 ∷ [])
    ∷ (28 ∷ 56 ∷ 112 ∷ 224 ∷ 221 ∷ 167 ∷ 83 ∷ 166 ∷ [])
    ∷ (81 ∷ 162 ∷ 89 ∷ 178 ∷ 121 ∷ 242 ∷ 249 ∷ 239 ∷ [])
    ∷ (195 ∷ 155 ∷ 43 ∷ 86 ∷ 172 ∷ 69 ∷ 138 ∷ 9 ∷ [])
    ∷ (18 ∷ 36 ∷ 72 ∷ 144 ∷ 61 ∷ 122 ∷ 244 ∷ 245 ∷ [])
    ∷ (247 ∷ 243 ∷ 251 ∷ 235 ∷ 203 ∷ 139 ∷ 11 ∷ 22 ∷ [])
    ∷ (44 ∷ 88 ∷ 176 ∷ 125 ∷ 250 ∷ 233 ∷ 207 ∷ 131 ∷ [])
    ∷ (27 ∷ 54 ∷ 108 ∷ 216 ∷ 173 ∷ 71 ∷ 142 ∷ 1 ∷ [])
    ∷ (2 ∷ 4 ∷ 8 ∷ 16 ∷ 32 ∷ 64 ∷ 128 ∷ 29 ∷ [])
    ∷ (58 ∷ 116 ∷ 232 ∷ 205 ∷ 135 ∷ 19 ∷ 38 ∷ 76 ∷ [])
    ∷ (152 ∷ 45 ∷ 90 ∷ 180 ∷ 117 ∷ 234 ∷ 201 ∷ 143 ∷ [])
    ∷ (3 ∷ 6 ∷ 12 ∷ 24 ∷ 48 ∷ 96 ∷ 192 ∷ 157 ∷ [])
    ∷ (39 ∷ 78 ∷ 156 ∷ 37 ∷ 74 ∷ 148 ∷ 53 ∷ 106 ∷ [])
    ∷ (212 ∷ 181 ∷ 119 ∷ 238 ∷ 193 ∷ 159 ∷ 35 ∷ 70 ∷ [])
    ∷ (140 ∷ 5 ∷ 10 ∷ 20 ∷ 40 ∷ 80 ∷ 160 ∷ 93 ∷ [])
    ∷ (186 ∷ 105 ∷ 210 ∷ 185 ∷ 111 ∷ 222 ∷ 161 ∷ 95 ∷ [])
    ∷ (190 ∷ 97 ∷ 194 ∷ 153 ∷ 47 ∷ 94 ∷ 188 ∷ 101 ∷ [])
    ∷ (202 ∷ 137 ∷ 15 ∷ 30 ∷ 60 ∷ 120 ∷ 240 ∷ 253 ∷ [])
    ∷ (231 ∷ 211 ∷ 187 ∷ 107 ∷ 214 ∷ 177 ∷ 127 ∷ 254 ∷ [])
    ∷ (225 ∷ 223 ∷ 163 ∷ 91 ∷ 182 ∷ 113 ∷ 226 ∷ 217 ∷ [])
    ∷ (175 ∷ 67 ∷ 134 ∷ 17 ∷ 34 ∷ 68 ∷ 136 ∷ 13 ∷ [])
    ∷ (26 ∷ 52 ∷ 104 ∷ 208 ∷ 189 ∷ 103 ∷ 206 ∷ 129 ∷ [])
    ∷ (31 ∷ 62 ∷ 124 ∷ 248 ∷ 237 ∷ 199 ∷ 147 ∷ 59 ∷ [])
    ∷ (118 ∷ 236 ∷ 197 ∷ 151 ∷ 51 ∷ 102 ∷ 204 ∷ 133 ∷ [])
    ∷ (23 ∷ 46 ∷ 92 ∷ 184 ∷ 109 ∷ 218 ∷ 169 ∷ 79 ∷ [])
    ∷ (158 ∷ 33 ∷ 66 ∷ 132 ∷ 21 ∷ 42 ∷ 84 ∷ 168 ∷ [])
    ∷ (77 ∷ 154 ∷ 41 ∷ 82 ∷ 164 ∷ 85 ∷ 170 ∷ 73 ∷ [])
    ∷ (146 ∷ 57 ∷ 114 ∷ 228 ∷ 213 ∷ 183 ∷ 115 ∷ 230 ∷ [])
    ∷ (209 ∷ 191 ∷ 99 ∷ 198 ∷ 145 ∷ 63 ∷ 126 ∷ 252 ∷ [])
    ∷ (229 ∷ 215 ∷ 179 ∷ 123 ∷ 246 ∷ 241 ∷ 255 ∷ 227 ∷ [])
    ∷ (219 ∷ 171 ∷ 75 ∷ 150 ∷ 49 ∷ 98 ∷ 196 ∷ 149 ∷ [])
    ∷ (55 ∷ 110 ∷ 220 ∷ 165 ∷ 87 ∷ 174 ∷ 65 ∷ 130 ∷ [])
    ∷ (25 ∷ 50 ∷ 100 ∷ 200 ∷ 141 ∷ 7 ∷ 14 ∷ 28 ∷ [])
    ∷ (56 ∷ 112 ∷ 224 ∷ 221 ∷ 167 ∷ 83 ∷ 166 ∷ 81 ∷ [])
    ∷ (162 ∷ 89 ∷ 178 ∷ 121 ∷ 242 ∷ 249 ∷ 239 ∷ 195 ∷ [])
    ∷ (155 ∷ 43 ∷ 86 ∷ 172 ∷ 69 ∷ 138 ∷ 9 ∷ 18 ∷ [])
    ∷ (36 ∷ 72 ∷ 144 ∷ 61 ∷ 122 ∷ 244 ∷ 245 ∷ 247 ∷ [])
    ∷ (243 ∷ 251 ∷ 235 ∷ 203 ∷ 139 ∷ 11 ∷ 22 ∷ 44 ∷ [])
    ∷ (88 ∷ 176 ∷ 125 ∷ 250 ∷ 233 ∷ 207 ∷ 131 ∷ 27 ∷ [])
    ∷ (54 ∷ 108 ∷ 216 ∷ 173 ∷ 71 ∷ 142 ∷ 1 ∷ 2 ∷ [])
    ∷ []

unfoldable pub logs : List (List ℕ)
logs =
    (0 ∷ 0 ∷ 1 ∷ 25 ∷ 2 ∷ 50 ∷ 26 ∷ 198 ∷ [])
    ∷ (3 ∷ 223 ∷ 51 ∷ 238 ∷ 27 ∷ 104 ∷ 199 ∷ 75 ∷ [])
    ∷ (4 ∷ 100 ∷ 224 ∷ 14 ∷ 52 ∷ 141 ∷ 239 ∷ 129 ∷ [])
    ∷ (28 ∷ 193 ∷ 105 ∷ 248 ∷ 200 ∷ 8 ∷ 76 ∷ 113 ∷ [])
    ∷ (5 ∷ 138 ∷ 101 ∷ 47 ∷ 225 ∷ 36 ∷ 15 ∷ 33 ∷ [])
    ∷ (53 ∷ 147 ∷ 142 ∷ 218 ∷ 240 ∷ 18 ∷ 130 ∷ 69 ∷ [])
    ∷ (29 ∷ 181 ∷ 194 ∷ 125 ∷ 106 ∷ 39 ∷ 249 ∷ 185 ∷ [])
    ∷ (201 ∷ 154 ∷ 9 ∷ 120 ∷ 77 ∷ 228 ∷ 114 ∷ 166 ∷ [])
    ∷ (6 ∷ 191 ∷ 139 ∷ 98 ∷ 102 ∷ 221 ∷ 48 ∷ 253 ∷ [])
    ∷ (226 ∷ 152 ∷ 37 ∷ 179 ∷ 16 ∷ 145 ∷ 34 ∷ 136 ∷ [])
    ∷ (54 ∷ 208 ∷ 148 ∷ 206 ∷ 143 ∷ 150 ∷ 219 ∷ 189 ∷ [])
    ∷ (241 ∷ 210 ∷ 19 ∷ 92 ∷ 131 ∷ 56 ∷ 70 ∷ 64 ∷ [])
    ∷ (30 ∷ 66 ∷ 182 ∷ 163 ∷ 195 ∷ 72 ∷ 126 ∷ 110 ∷ [])
    ∷ (107 ∷ 58 ∷ 40 ∷ 84 ∷ 250 ∷ 133 ∷ 186 ∷ 61 ∷ [])
    ∷ (202 ∷ 94 ∷ 155 ∷ 159 ∷ 10 ∷ 21 ∷ 121 ∷ 43 ∷ [])
    ∷ (78 ∷ 212 ∷ 229 ∷ 172 ∷ 115 ∷ 243 ∷ 167 ∷ 87 ∷ [])
    ∷ (7 ∷ 112 ∷ 192 ∷ 247 ∷ 140 ∷ 128 ∷ 99 ∷ 13 ∷ [])
    ∷ (103 ∷ 74 ∷ 222 ∷ 237 ∷ 49 ∷ 197 ∷ 254 ∷ 24 ∷ [])
    ∷ (227 ∷ 165 ∷ 153 ∷ 119 ∷ 38 ∷ 184 ∷ 180 ∷ 124 ∷ [])
    ∷ (17 ∷ 68 ∷ 146 ∷ 217 ∷ 35 ∷ 32 ∷ 137 ∷ 46 ∷ [])
    ∷ (55 ∷ 63 ∷ 209 ∷ 91 ∷ 149 ∷ 188 ∷ 207 ∷ 205 ∷ [])
    ∷ (144 ∷ 135 ∷ 151 ∷ 178 ∷ 220 ∷ 252 ∷ 190 ∷ 97 ∷ [])
    ∷ (242 ∷ 86 ∷ 211 ∷ 171 ∷ 20 ∷ 42 ∷ 93 ∷ 158 ∷ [])
    ∷ (132 ∷ 60 ∷ 57 ∷ 83 ∷ 71 ∷ 109 ∷ 65 ∷ 162 ∷ [])
    ∷ (31 ∷ 45 ∷ 67 ∷ 216 ∷ 183 ∷ 123 ∷ 164 ∷ 118 ∷ [])
    ∷ (196 ∷ 23 ∷ 73 ∷ 236 ∷ 127 ∷ 12 ∷ 111 ∷ 246 ∷ [])
    ∷ (108 ∷ 161 ∷ 59 ∷ 82 ∷ 41 ∷ 157 ∷ 85 ∷ 170 ∷ [])
    ∷ (251 ∷ 96 ∷ 134 ∷ 177 ∷ 187 ∷ 204 ∷ 62 ∷ 90 ∷ [])
    ∷ (203 ∷ 89 ∷ 95 ∷ 176 ∷ 156 ∷ 169 ∷ 160 ∷ 81 ∷ [])
    ∷ (11 ∷ 245 ∷ 22 ∷ 235 ∷ 122 ∷ 117 ∷ 44 ∷ 215 ∷ [])
    ∷ (79 ∷ 174 ∷ 213 ∷ 233 ∷ 230 ∷ 231 ∷ 173 ∷ 232 ∷ [])
    ∷ (116 ∷ 214 ∷ 244 ∷ 234 ∷ 168 ∷ 80 ∷ 88 ∷ 175 ∷ [])
    ∷ []

-- rows of eight as one list
flat : List (List ℕ) → List ℕ
flat [] = []
flat (x ∷ xs) = x ++ flat xs

eights : List (List ℕ) → Bool
eights [] = true
eights (x ∷ xs) = both (eqb (length x) 8) (eights xs)

flat_at : (xs : List (List ℕ)) → T (eights xs) → (q r : ℕ) → r < 8 → get_or (get_or xs q []) r 0 ≡ get_or (flat xs) (q * 8 + r) 0
unfolding flat eights
flat_at [] t zero r h = refl
flat_at [] t (suc q) r h = refl
flat_at (x ∷ xs) t zero r h =
    let n : length x ≡ 8 = eqb→eq (length x) 8 (both_left _ _ t) in
    let e : r ≡ 0 * 8 + r = omega arith in
    sym (get_or_append_left x (flat xs) 0 r (omega arith)) ∙ ap (λ k. get_or (x ++ flat xs) k 0) e
flat_at (x ∷ xs) t (suc q) r h =
    let n : length x ≡ 8 = eqb→eq (length x) 8 (both_left _ _ t) in
    let e : suc q * 8 + r ≡ length x + (q * 8 + r) = omega arith in
    flat_at xs (both_right (eqb (length x) 8) _ t) q r h
    ∙ sym (get_or-append-add x (flat xs) (q * 8 + r) 0) ∙ ap (λ k. get_or (x ++ flat xs) k 0) (sym e)

by_rows : (xs : List (List ℕ)) → T (eights xs) → (k : ℕ) → get_or (get_or xs (k / 8) []) (k % 8) 0 ≡ get_or (flat xs) k 0
by_rows xs t k =
    let e : k / 8 * 8 + k % 8 ≡ k = omega arith in
    flat_at xs t (k / 8) (k % 8) (mod-lt k (lit< tt)) ∙ ap (λ j. get_or (flat xs) j 0) e

-- each entry is twice the one before, in the field
chained : ℕ → List ℕ → Bool
chained v [] = true
chained v (x ∷ xs) = both (eqb x v) (chained (gmul 2 v) xs)

chained_at : (v : ℕ) (xs : List ℕ) → T (chained v xs) → (k : ℕ) → k < length xs → get_or xs k 0 ≡ raised v k
unfolding chained
chained_at v [] t k h = absurd (not-suc-le-zero h)
chained_at v (x ∷ xs) t zero h = eqb→eq x v (both_left (eqb x v) (chained (gmul 2 v) xs) t)
chained_at v (x ∷ xs) t (suc k) h = chained_at (gmul 2 v) xs (both_right (eqb x v) (chained (gmul 2 v) xs) t) k (le_of_suc-le-suc h)

flat_exps : (k : ℕ) → k < 512 → get_or (flat exps) k 0 ≡ raised 1 k
unfolding exps flat chained gmul
flat_exps k h = chained_at 1 (flat exps) tt k h

exps_rows : T (eights exps)
unfolding exps eights
exps_rows = tt

logs_rows : T (eights logs)
unfolding logs eights
logs_rows = tt

pub exp_at : (k : ℕ) → k < 512 → get_or (get_or exps (k / 8) []) (k % 8) 0 ≡ raised 1 k
exp_at k h = by_rows exps exps_rows k ∙ flat_exps k h

-- the logarithm of k + 1, and the power that it gives
log_test : (k : ℕ) → k < 255 → T (both (ltb (get_or (flat logs) (suc k) 0) 255) (eqb (get_or (flat exps) (get_or (flat logs) (suc k) 0) 0) (suc k)))
unfolding exps logs flat
log_test = at (λ k. both (ltb (get_or (flat logs) (suc k) 0) 255) (eqb (get_or (flat exps) (get_or (flat logs) (suc k) 0) 0) (suc k))) 255 tt

flat_log_lt : (a : ℕ) → 0 < a → a < 256 → get_or (flat logs) a 0 < 255
flat_log_lt zero p h = absurd (not-suc-le-zero p)
flat_log_lt (suc k) p h = ltb→lt _ 255 (both_left _ _ (log_test k (le_of_suc-le-suc h)))

flat_log_at : (a : ℕ) → 0 < a → a < 256 → raised 1 (get_or (flat logs) a 0) ≡ a
flat_log_at zero p h = absurd (not-suc-le-zero p)
flat_log_at (suc k) p h =
    sym (flat_exps (get_or (flat logs) (suc k) 0) (lt_trans (flat_log_lt (suc k) p h) (lit< tt)))
    ∙ eqb→eq _ (suc k) (both_right (ltb (get_or (flat logs) (suc k) 0) 255) _ (log_test k (le_of_suc-le-suc h)))

pub log_lt : (a : ℕ) → 0 < a → a < 256 → get_or (get_or logs (a / 8) []) (a % 8) 0 < 255
log_lt a p h = rw (by_rows logs logs_rows a) (flat_log_lt a p h)

pub log_at : (a : ℕ) → 0 < a → a < 256 → raised 1 (get_or (get_or logs (a / 8) []) (a % 8) 0) ≡ a
log_at a p h = ap (raised 1) (by_rows logs logs_rows a) ∙ flat_log_at a p h

byte_raised : (v k : ℕ) → v < 256 → raised v k < 256
byte_raised v zero h = h
byte_raised v (suc k) h = byte_raised (gmul 2 v) k (gmul_lt 2 v (lit< tt) h)

raised_lt : (k : ℕ) → raised 1 k < 256
raised_lt k = byte_raised 1 k (lit< tt)

two_first : (a v : ℕ) → a < 256 → v < 256 → gmul a (gmul 2 v) ≡ gmul 2 (gmul a v)
two_first a v ha hv =
    sym (gmul_assoc a 2 v ha (lit< tt) hv) ∙ ap (λ x. gmul x v) (gmul_comm a 2 ha (lit< tt)) ∙ gmul_assoc 2 a v (lit< tt) ha hv

gmul_raised : (a v k : ℕ) → a < 256 → v < 256 → gmul a (raised v k) ≡ raised (gmul a v) k
gmul_raised a v zero ha hv = refl
gmul_raised a v (suc k) ha hv = gmul_raised a (gmul 2 v) k ha (gmul_lt 2 v (lit< tt) hv) ∙ ap (λ x. raised x k) (two_first a v ha hv)

raised_add : (v i j : ℕ) → raised (raised v i) j ≡ raised v (i + j)
raised_add v zero j = rw zero-add
raised_add v (suc i) j = rw suc-add (raised_add (gmul 2 v) i j)

pub gmul_exps : (i j : ℕ) → gmul (raised 1 i) (raised 1 j) ≡ raised 1 (i + j)
gmul_exps i j =
    let a : raised 1 i < 256 = raised_lt i in
    gmul_raised (raised 1 i) 1 j a (lit< tt)
    ∙ ap (λ x. raised x j) (gmul_comm (raised 1 i) 1 a (lit< tt) ∙ gmul_one_l (raised 1 i) a)
    ∙ raised_add 1 i j

-- a power that is not 0
raised_pos : (k : ℕ) → k < 255 → 0 < raised 1 k
unfolding exps flat
raised_pos k h = rw (sym (flat_exps k (lt_trans h (lit< tt)))) (ltb→lt 0 _ (at (λ k. ltb 0 (get_or (flat exps) k 0)) 255 tt k h))

-- the power 255 of 2 is 1
pub raised_inverse : (k : ℕ) → k < 255 → raised 1 (255 - k) ≡ inverse (raised 1 k)
unfolding exps flat
raised_inverse k h =
    let e : k + (255 - k) ≡ 255 = omega arith in
    inverse_one (raised 1 k) (raised 1 (255 - k)) (raised_pos k h) (raised_lt k) (raised_lt (255 - k))
    (gmul_exps k (255 - k) ∙ ap (raised 1) e ∙ sym (flat_exps 255 (lit< tt)))
