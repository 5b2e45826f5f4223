-- The text of the library: its lines, each ended by a line feed.
use Rattle.std.specs.Prelude.{ℕ, List, [], ◌∷◌, ◌++◌, codes}

-- lines, each ended by a line feed
abbrev pub text_of_lines : List (List ℕ) → List ℕ
text_of_lines [] = []
text_of_lines (line ∷ lines) = line ++ 10 ∷ text_of_lines lines

-- it never holds
abbrev pub nevero_lines : List (List ℕ)
nevero_lines = codes "(defrel (nevero) (nevero))" ∷ []

-- it always holds, again and again
abbrev pub alwayso_lines : List (List ℕ)
alwayso_lines = codes "(defrel (alwayso) (conde (succeed) ((alwayso))))" ∷ []

-- the empty list
abbrev pub nullo_lines : List (List ℕ)
nullo_lines = codes "(defrel (nullo x) (== x '()))" ∷ []

-- a pair of its parts
abbrev pub conso_lines : List (List ℕ)
conso_lines = codes "(defrel (conso a d p) (== (cons a d) p))" ∷ []

-- the first part of a pair
abbrev pub caro_lines : List (List ℕ)
caro_lines = codes "(defrel (caro p a) (fresh (d) (== (cons a d) p)))" ∷ []

-- the rest of a pair
abbrev pub cdro_lines : List (List ℕ)
cdro_lines = codes "(defrel (cdro p d) (fresh (a) (== (cons a d) p)))" ∷ []

-- a pair
abbrev pub pairo_lines : List (List ℕ)
pairo_lines = codes "(defrel (pairo p) (fresh (a d) (== (cons a d) p)))" ∷ []

-- a proper list
abbrev pub listo_lines : List (List ℕ)
listo_lines =
    codes "(defrel (listo l)" ∷
    codes "  (conde" ∷
    codes "    ((== l '()))" ∷
    codes "    ((fresh (a d) (== (cons a d) l) (listo d)))))" ∷ []

-- a list and what it goes on as
abbrev pub appendo_lines : List (List ℕ)
appendo_lines =
    codes "(defrel (appendo l t out)" ∷
    codes "  (conde" ∷
    codes "    ((== '() l) (== t out))" ∷
    codes "    ((fresh (a d res)" ∷
    codes "       (== (cons a d) l)" ∷
    codes "       (== (cons a res) out)" ∷
    codes "       (appendo d t res)))))" ∷ []

-- an element of a list
abbrev pub membero_lines : List (List ℕ)
membero_lines =
    codes "(defrel (membero x l)" ∷
    codes "  (fresh (a d)" ∷
    codes "    (== (cons a d) l)" ∷
    codes "    (conde" ∷
    codes "      ((== a x))" ∷
    codes "      ((membero x d)))))" ∷ []

-- a list without the first of equal elements
abbrev pub rembero_lines : List (List ℕ)
rembero_lines =
    codes "(defrel (rembero x l out)" ∷
    codes "  (conde" ∷
    codes "    ((== '() l) (== '() out))" ∷
    codes "    ((== (cons x out) l))" ∷
    codes "    ((fresh (a d res)" ∷
    codes "       (== (cons a d) l)" ∷
    codes "       (=/= a x)" ∷
    codes "       (== (cons a res) out)" ∷
    codes "       (rembero x d res)))))" ∷ []

-- the value of a name in an environment
abbrev pub lookupo_lines : List (List ℕ)
lookupo_lines =
    codes "(defrel (lookupo x env val)" ∷
    codes "  (fresh (y v rest)" ∷
    codes "    (== (cons (cons y v) rest) env)" ∷
    codes "    (conde" ∷
    codes "      ((== y x) (== v val))" ∷
    codes "      ((=/= y x) (lookupo x rest val)))))" ∷ []

-- no name of an environment
abbrev pub not_in_envo_lines : List (List ℕ)
not_in_envo_lines =
    codes "(defrel (not-in-envo x env)" ∷
    codes "  (conde" ∷
    codes "    ((== env '()))" ∷
    codes "    ((fresh (y v rest)" ∷
    codes "       (== (cons (cons y v) rest) env)" ∷
    codes "       (=/= y x)" ∷
    codes "       (not-in-envo x rest)))))" ∷ []

-- the values of expressions
abbrev pub evallisto_lines : List (List ℕ)
evallisto_lines =
    codes "(defrel (evallisto es env vals)" ∷
    codes "  (conde" ∷
    codes "    ((== es '()) (== vals '()))" ∷
    codes "    ((fresh (e rest v vs)" ∷
    codes "       (== (cons e rest) es)" ∷
    codes "       (== (cons v vs) vals)" ∷
    codes "       (evalo e env v)" ∷
    codes "       (evallisto rest env vs)))))" ∷ []

-- the value of an expression
abbrev pub evalo_lines : List (List ℕ)
evalo_lines =
    codes "(defrel (evalo e env val)" ∷
    codes "  (conde" ∷
    codes "    ((symbolo e) (lookupo e env val))" ∷
    codes "    ((== e `(quote ,val)) (absento 'closure val) (not-in-envo 'quote env))" ∷
    codes "    ((fresh (es)" ∷
    codes "       (== e `(list . ,es))" ∷
    codes "       (not-in-envo 'list env)" ∷
    codes "       (evallisto es env val)))" ∷
    codes "    ((fresh (x body)" ∷
    codes "       (== e `(lambda (,x) ,body))" ∷
    codes "       (== val `(closure ,x ,body ,env))" ∷
    codes "       (symbolo x)" ∷
    codes "       (not-in-envo 'lambda env)))" ∷
    codes "    ((fresh (rator rand x body env2 a)" ∷
    codes "       (== e `(,rator ,rand))" ∷
    codes "       (evalo rator env `(closure ,x ,body ,env2))" ∷
    codes "       (evalo rand env a)" ∷
    codes "       (evalo body `((,x . ,a) . ,env2) val)))))" ∷ []

-- the library, whose relations are numbered in this order
unfoldable pub library : List ℕ
library = text_of_lines (
    nevero_lines ++ alwayso_lines ++ nullo_lines ++ conso_lines ++ caro_lines ++
    cdro_lines ++ pairo_lines ++ listo_lines ++ appendo_lines ++ membero_lines ++
    rembero_lines ++ lookupo_lines ++ not_in_envo_lines ++ evallisto_lines ++ evalo_lines)
