-- One theorem over the whole table of cases: what the definitions compute is what was worked by hand.
use mathlib.Core.Path.{◌≡◌, refl}
use mathlib.Core.Bool.{true}
use Rattle.cases.specs.Opened.{opened}
use Rattle.cases.specs.Row.{computed, worked}
use Rattle.cases.specs.Agree.{all_agree}
use Rattle.cases.specs.Paper.{paper}
use Rattle.cases.specs.Machine.{machine}
use Rattle.cases.specs.Guides.{guides}
use Rattle.cases.specs.Listings.{listings}
use Rattle.cases.specs.Plates.{plates}
use Rattle.cases.specs.Runs.{runs}
use Rattle.cases.specs.Letters.{letters}
use Rattle.cases.specs.Table.{table}
use Rattle.cases.proofs.Agree.{all-agree, agree-append}

paper-agree : all_agree paper ≡ true
unfolding opened
paper-agree = refl

machine-agree : all_agree machine ≡ true
unfolding opened
machine-agree = refl

guides-agree : all_agree guides ≡ true
unfolding opened
guides-agree = refl

listings-agree : all_agree listings ≡ true
unfolding opened
listings-agree = refl

plates-agree : all_agree plates ≡ true
unfolding opened
plates-agree = refl

runs-agree : all_agree runs ≡ true
unfolding opened
runs-agree = refl

letters-agree : all_agree letters ≡ true
unfolding opened
letters-agree = refl

pub cases : computed table ≡ worked table
unfolding table
cases =
    let p = agree-append paper machine paper-agree machine-agree in
    let p = agree-append _ guides p guides-agree in
    let p = agree-append _ listings p listings-agree in
    let p = agree-append _ plates p plates-agree in
    let p = agree-append _ runs p runs-agree in
    all-agree table (agree-append _ letters p letters-agree)
