mod OwnSigns
